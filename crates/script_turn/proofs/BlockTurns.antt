-- The turn of a block as it is read is `turn_of`.
use Prim.Native.Nat.{ℕ, ◌-◌}
use mathlib.Core.Path.{◌≡◌, refl, sym, ◌∙◌, ap}
use mathlib.Core.Bool.{Bool, true, false, cond}
use mathlib.Core.List.{List}
use borrow.Author.Tests.{ne_eqb}
use Rattle.std.specs.Prelude.{Option, Some, None, Result, Ok, Err}
use Rattle.std.specs.Option.{ok_or}
use Rattle.std.specs.Result.{result_ok}
use Rattle.std.proofs.lemmas.Option.{none-some, cond_some}
use lib.Dec.{eqb, leb}
use lib.ListN.{length}
use lib.Seq.{sets}
use Rattle.rules.specs.Store.{Store, Fixed}
use Rattle.stages.specs.Judged.{act_if}
use Rattle.script_rules.specs.Blocks.{number_lines_ok, from_path, from_data, after_line, after_block, block_ok}
use Rattle.script_rules.specs.Replay.{next_call}
use Rattle.script_rules.specs.declared.line.Line.TheVariants as line
use Rattle.script_rules.specs.declared.replayed.Reason.{Reason}
use Rattle.script_rules.specs.declared.replayed.Reason.TheVariants as reason
use Rattle.script_input.specs.Read.{numbers_in, numbers_read, read_ok, block_read_ok}
use Rattle.script_input.specs.declared.blocks.Numbers.{Numbers}
use Rattle.script_input.proofs.BlockLaws.{block_read, call-asked}
use Rattle.script_turn.specs.Turns.{Served, served, served_by, block_served, Turned, turned, text_if, turn_of, answered_of, block_turn}

-- what a result that was made of an Option says of it
pub was : {A : Type 0} (why : Reason) (l : Option A) {r : Result A Reason} → ok_or l why ≡ r → l ≡ result_ok r
was why None e = ap result_ok e
was why (Some x) e = ap result_ok e

-- ---- a block as it is read

module _ (fit : Bool) (K : Fixed) (S : List ℕ) (n : Numbers) (P D out : List ℕ) (at : ℕ) (s : Store) (r : Bool) (ok : r ≡ read_ok n P D) where
  pub broken : r ≡ false → turned (Err reason.Broken) out s ≡ block_turn fit K S n P D out at s
  unfolding block_turn
  broken e = rw (← ok, e)

  module _ (e : r ≡ true) (l : Option ℕ) (after : List ℕ) (t : Store) (v : served l after t ≡ block_served fit K n P D out at s) where
    pub full : l ≡ None → turned (Err reason.Room) after t ≡ block_turn fit K S n P D out at s
    unfolding block_turn
    full z = rw (← ok, e, ← v, z)

    pub answered : {m : ℕ} → l ≡ Some m → (size : ℕ) → size ≡ length S - length (after_line line.Data D) → turned (Ok (record { size = size; length = m })) after t ≡ block_turn fit K S n P D out at s
    unfolding block_turn
    answered z size q = rw (← ok, e, ← v, z, q)

-- ---- the rules' turn

module _ (fit : Bool) (K : Fixed) (S out : List ℕ) (at : ℕ) (s : Store) where
  abbrev block : Bool → Turned
  block ok =
      cond ok
      (cond (leb (length (text_if fit K S s)) (length out - at))
      (turned (Ok (record { size = length S - length (after_block S); length = length (text_if fit K S s) })) (sets out at (text_if fit K S s)) (act_if fit K s (next_call S)).store)
      (turned (Err reason.Room) out s))
      (turned (Err reason.Broken) out s)

  abbrev as_served : Served → Turned
  as_served x = turned (answered_of (length S - length (after_block S)) x.length) x.output x.store

  by-room : (t : Bool) → leb (length (text_if fit K S s)) (length out - at) ≡ t → as_served (served_by fit K out at s (next_call S)) ≡ block true
  unfolding served_by
  by-room true e = rw e
  by-room false e = rw e

  -- what was read of the numbers, and the block
  read-block : number_lines_ok S ≡ true → read_ok (numbers_in S) (from_path S) (from_data S) ≡ block_ok S
  unfolding block_read_ok
  read-block g = let b = block_read S in rw g at b

  unread-block : number_lines_ok S ≡ false → false ≡ block_ok S
  unfolding block_read_ok
  unread-block g = let b = block_read S in rw g at b

  block-turn : number_lines_ok S ≡ true → block_turn fit K S (numbers_in S) (from_path S) (from_data S) out at s ≡ block (block_ok S)
  unfolding block_turn
  block-turn g = by (block_ok S) refl
    where
      by : (t : Bool) → block_ok S ≡ t → cond (read_ok (numbers_in S) (from_path S) (from_data S)) (as_served (block_served fit K (numbers_in S) (from_path S) (from_data S) out at s)) (turned (Err reason.Broken) out s) ≡ block (block_ok S)
      by true e = rw (read-block g, e, call-asked S g) (by-room (leb (length (text_if fit K S s)) (length out - at)) refl)
      by false e = rw (read-block g, e)

  module _ (n : ℕ) where
    pub ended : eqb (length S) 0 ≡ true → turned (Err reason.End) out s ≡ turn_of fit n K S out at s
    unfolding turn_of
    ended e = rw e

    module _ (more : eqb (length S) 0 ≡ false) where
      pub spent : n ≡ 0 → turned (Err reason.Allowance) out s ≡ turn_of fit n K S out at s
      unfolding turn_of
      spent e = rw (more, e)

      module _ (some : n ≡ 0 → ⊥) (r : Option Numbers) (read : r ≡ numbers_read S) where
        pub unread : r ≡ None → turned (Err reason.Broken) out s ≡ turn_of fit n K S out at s
        unfolding turn_of
        unread z = by (number_lines_ok S) refl (sym z ∙ read)
          where
            by : (t : Bool) → number_lines_ok S ≡ t → None ≡ cond t (Some (numbers_in S)) None
                → turned (Err reason.Broken) out s ≡ cond (eqb (length S) 0) (turned (Err reason.End) out s) (cond (eqb n 0) (turned (Err reason.Allowance) out s) (block (block_ok S)))
            by true g q = absurd (none-some (numbers_in S) q)
            by false g q = rw (more, ne_eqb n 0 some, ← unread-block g)

        pub goes : (x : Turned) (m : Numbers) (P D : List ℕ) → r ≡ Some m → P ≡ from_path S → D ≡ after_line line.Path P → x ≡ block_turn fit K S m P D out at s → x ≡ turn_of fit n K S out at s
        unfolding turn_of
        goes x m P D z p q v = let h = cond_some (number_lines_ok S) (numbers_in S) m (sym read ∙ z) in v ∙ rw (← h.1, q, p, more, ne_eqb n 0 some) (block-turn h.0)
