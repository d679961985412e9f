-- What a rename takes from one directory to another is a plain file or a link.
use mathlib.Core.Path.{◌≡◌, subst}
use mathlib.Core.Bool.{true}
use mathlib.Core.Logic.{◌⊎◌, inl, inr}
use Prim.Native.Nat.{ℕ, ◌≤◌}
use native.Mathlib.Omega.{arith}
use native.Mathlib.Decide.{ℕ_discrete}
use Rattle.rules.specs.Layout.{KIND_MAX, FILE_KIND, FREE, PLAIN, LINK}
use Rattle.rules.specs.Store.{Store, Fixed, view}
use Rattle.rules.specs.Rom.{seen}
use Rattle.rules.specs.Sound.{sound}
use Rattle.rules.specs.Calls.{Call}
use Rattle.rules.specs.Decide.{decide}
use Rattle.rules.specs.declared.ids.Slot.{Slot}
use Rattle.rules.specs.declared.decision.DirChange.{DirChange}
use Rattle.rules.specs.declared.decision.Output.{Output}
use Rattle.rules.specs.declared.decision.Effect.TheVariants as effect
use Rattle.rules.specs.Decisions.{Granted}
use Rattle.rules.proofs.Passed.{Of, fit_of}
use Rattle.preservation.specs.Claims.{word}
use Rattle.preservation.proofs.StoreChanges.{tables_of}
use Rattle.preservation.proofs.SoundStore.{SoundStore, means-sound}
use Rattle.preservation.proofs.NameEffects.{named_small}
use Rattle.preservation.proofs.Granted.{Granting, transfers}
use Rattle.preservation.proofs.Decided.{decide-fit}

-- an entry names a slot in use
kind-moved : {K : Fixed} (s : Store) (h : SoundStore s) (c : Call) {n : ℕ} {o : Output} (from to : DirChange) (y : Slot) → Granting K s h c n o (effect.Transferred from to y) → ((tables_of s).file y.0 FILE_KIND ≡ PLAIN) ⊎ ((tables_of s).file y.0 FILE_KIND ≡ LINK)
kind-moved s h c from to f (transfers d i e j y n k m a) = by (ℕ_discrete ((tables_of s).file y.0 FILE_KIND) PLAIN)
  where
    used : (tables_of s).file y.0 FILE_KIND ≡ FREE → ⊥
    used z = ((h.tables.tree.dirs d.0 n.dir-small n.dir-kind).dirents i n.dirent-small).slot-used (rw n.there n.not_root) (rw n.there z)

    most : (tables_of s).file y.0 FILE_KIND ≤ KIND_MAX
    most = (h.tables.slots.files y.0 (named_small s h d i y n)).kind-most

    by : Dec ((tables_of s).file y.0 FILE_KIND ≡ PLAIN) → ((tables_of s).file y.0 FILE_KIND ≡ PLAIN) ⊎ ((tables_of s).file y.0 FILE_KIND ≡ LINK)
    by (yes p) = inl p
    by (no p) = inr (omega (arith, used, k, most))

pub transferred-file : (K : Fixed) (s : Store) (c : Call) (n : ℕ) (o : Output) (from to : DirChange) (y : Slot) → sound K s ≡ true → decide K (seen K.rom (view s)) c ≡ Granted n o (effect.Transferred from to y) →
    (word s y.0 FILE_KIND ≡ PLAIN) ⊎ (word s y.0 FILE_KIND ≡ LINK)
unfolding Of tables_of
transferred-file K s c n o from to y t d = let w = (means-sound K s).holds t in kind-moved s w.store c from to y (subst (Of (Granting K s w.store c)) d (fit_of (decide-fit K s w c)))
