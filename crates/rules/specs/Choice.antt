-- Choices: `cond` of the library on one test, and lists of tests.
use Rattle.std.specs.Prelude.{Bool, true, false, cond, List, [], ◌∷◌}

-- all the tests pass
unfoldable pub every : List Bool → Bool
every [] = true
every (t ∷ ts) = cond t (every ts) false

-- one of the tests passes
unfoldable pub some : List Bool → Bool
some [] = false
some (t ∷ ts) = cond t true (some ts)

-- the second test is owed only where the first passes
unfoldable pub implies : Bool → Bool → Bool
implies a b = cond a b true
