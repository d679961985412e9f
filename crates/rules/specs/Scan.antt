-- Scans over the numbers i, i + 1, .. up to and without n.
--     all p i n       p holds of each
--     any p i n       p holds of one
--     count p i n     of how many p holds
--     total f i n     the sum of f
--     first p i n     the first of which p holds, n where there is none
--     repeat f i n s  s after the steps f i, f (i + 1), ..
use Rattle.std.specs.Prelude.{Bool, true, false, cond, ℕ, zero, suc, ◌+◌, ◌-◌}

-- k turns from i on
unfoldable pub turns : {A : Type 0} → (ℕ → A → A) → ℕ → ℕ → A → A
turns f i zero z = z
turns f i (suc k) z = f i (turns f (suc i) k z)

-- f at i, of f at i + 1, .., of z at n
unfoldable pub fold : {A : Type 0} → (ℕ → A → A) → ℕ → ℕ → A → A
fold f i n z = turns f i (n - i) z

unfoldable pub all : (ℕ → Bool) → ℕ → ℕ → Bool
all p i n = fold (λ j rest. cond (p j) rest false) i n true

unfoldable pub any : (ℕ → Bool) → ℕ → ℕ → Bool
any p i n = fold (λ j rest. cond (p j) true rest) i n false

unfoldable pub count : (ℕ → Bool) → ℕ → ℕ → ℕ
count p i n = fold (λ j rest. cond (p j) (1 + rest) rest) i n 0

unfoldable pub total : (ℕ → ℕ) → ℕ → ℕ → ℕ
total f i n = fold (λ j rest. f j + rest) i n 0

unfoldable pub first : (ℕ → Bool) → ℕ → ℕ → ℕ
first p i n = fold (λ j rest. cond (p j) j rest) i n n

-- k steps from i on
unfoldable pub iterate : {S : Type 0} → (ℕ → S → S) → ℕ → ℕ → S → S
iterate f i zero s = s
iterate f i (suc k) s = iterate f (suc i) k (f i s)

unfoldable pub repeat : {S : Type 0} → (ℕ → S → S) → ℕ → ℕ → S → S
repeat f i n s = iterate f i (n - i) s
