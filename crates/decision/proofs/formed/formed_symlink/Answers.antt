-- A text that is a path has at most 64 bytes, so its length is itself as a word.
use Prim.Native.Nat.{ℕ, ◌%◌, ◌^◌}
use mathlib.Core.Path.{◌≡◌, sym, ◌∙◌}
use mathlib.Core.Bool.{true}
use mathlib.Core.List.{List, [], ◌∷◌}
use native.Mathlib.Omega.{arith}
use borrow.Author.Tests.{leb-true}
use lib.ListN.{length}
use Rattle.rules.specs.Choice.{every}
use Rattle.rules.specs.Layout.{PATH}
use Rattle.rules.specs.Paths.{size_ok, shape_ok, path_ok}
use Rattle.rules.specs.Calls.{path_below_root}
use Rattle.rules.proofs.Choices.{passed}
use Rattle.rules.proofs.Tests.{test}
use Rattle.decision.proofs.formed.formed_symlink.Goals as goal

small : (p b : List ℕ) → every (path_below_root p ∷ path_ok b ∷ []) ≡ true → length b % 2 ^ 32 ≡ length b
unfolding path_ok shape_ok size_ok
small p b e = omega (arith, leb-true (length b) PATH (test 1 _ (test 0 _ (test 0 _ (test 1 _ e)))))

pub returns : goal.returns
returns c = let ok : every (path_below_root _ ∷ path_ok _ ∷ []) ≡ true = sym c.symlink_ok.ensures ∙ c.if-not-symlink_ok.false in
    passed _ _ _ _ _ c.symlink_ok.ensures c.if-not-symlink_ok.false (rw (c.word_of.ensures, small _ _ ok) at c.decide_symlink.ensures)
