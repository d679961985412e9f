-- What of the factory part follows where a prompt begins.
use Rattle.std.specs.Prelude.{ℕ, cond, List, [], ltb, drop}
use Rattle.rules.specs.Layout.{PROMPTS}
use Rattle.rules.specs.Rom.{rom_from}

-- the part from the first byte of prompt k on
unfoldable pub prompt_rest : List ℕ → ℕ → List ℕ
prompt_rest R k = cond (ltb k PROMPTS) (drop 2 (rom_from k R)) []
