-- May the subject, by the bits and then by the label: what `allowed` and `searched` of the rules ask, as a value.
use Rattle.std.specs.Prelude.{ℕ, Bool, cond, List, Result, Ok, Err}
use Rattle.rules.specs.Store.{Table}
use Rattle.rules.specs.Rights.{WRITE}
use Rattle.rules.specs.Walk.{bits_allow, label_allows}
use Rattle.rules.specs.DecidePaths.{may_name}
use Rattle.rules.specs.declared.ids.Slot.{Slot}
use Rattle.rules.specs.declared.rights.Rights.{Rights}
use Rattle.rules.specs.declared.request.Subject.{Subject}
use Rattle.rules.specs.declared.refusal.Refusal.{Refusal}
use Rattle.rules.specs.declared.refusal.Refusal.TheVariants.{BitsForbid, LabelForbids}

-- yes, or why not
abbrev pub Permission : Type 0
Permission = Result (Unit {0}) Refusal

-- "(9, 10)", of the two answers: the bits' refusal comes first
unfoldable pub by_both : (bits label : Bool) → Permission
by_both bits label = cond bits (cond label (Ok tt) (Err LabelForbids)) (Err BitsForbid)

-- the rights over slot s
abbrev pub permitted : Table → List ℕ → Subject → Slot → Rights → Permission
permitted file Q who s want = by_both (bits_allow file who s want) (label_allows file Q who s want)

-- write over directory d, of which the file in s gains or loses a name
abbrev pub permitted_to_name : Table → List ℕ → Subject → (d s : Slot) → Permission
permitted_to_name file Q who d s = by_both (may_name file who d s) (label_allows file Q who d WRITE)
