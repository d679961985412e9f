-- Tests, and what they mean; one value of a function changed.
use mathlib.Core.Path.{◌≡◌, refl, subst, fun_ext}
use mathlib.Core.Bool.{Bool, true, false, not, cond, ◌&&◌, false≢true}
use mathlib.Core.List.{List, [], ◌∷◌}
use Prim.Native.Nat.{ℕ, ◌≤◌, ◌<◌}
use native.Mathlib.Omega.{arith}
use lib.Dec.{eqb, ltb, leb}
use borrow.Author.Tests.{ltb-true, leb-true, eqb-true, eqb-false, lt-ltb, le-leb, eq-eqb, ne_eqb}
use Rattle.rules.specs.Choice.{every, some, implies}
use Rattle.rules.specs.Scan.{all}
use Rattle.rules.proofs.Scans.{all-at, all_of}

-- ---- a test means a statement

pub record Means (b : Bool) (P : Type 0) : Type 0 where
  pub holds : b ≡ true → P
  pub tests : P → b ≡ true

pub means-le : (a b : ℕ) → Means (leb a b) (a ≤ b)
means-le a b = record { holds = leb-true a b; tests = le-leb a b }

pub means-lt : (a b : ℕ) → Means (ltb a b) (a < b)
means-lt a b = record { holds = ltb-true a b; tests = lt-ltb a b }

pub means-eq : (a b : ℕ) → Means (eqb a b) (a ≡ b)
means-eq a b = record { holds = eqb-true a b; tests = eq-eqb a b }

pub means-test : (b : Bool) → Means b (b ≡ true)
means-test b = record { holds = λ e. e; tests = λ e. e }

pub means-same : {b : Bool} {P Q : Type 0} → Means b P → (P → Q) → (Q → P) → Means b Q
means-same m f g = record { holds = λ e. f (m.holds e); tests = λ q. m.tests (g q) }

pub means-not : {b : Bool} {P : Type 0} → Means b P → Means (not b) (P → ⊥)
means-not {b = true} m = record { holds = λ e p. false≢true e; tests = λ n. absurd (n (m.holds refl)) }
means-not {b = false} m = record { holds = λ e p. false≢true (m.tests p); tests = λ n. refl }

-- a list of tests, all of which are to pass
pub record MeansEvery (ts : List Bool) (P : Type 0) : Type 0 where
  pub holds : every ts ≡ true → P
  pub tests : P → every ts ≡ true

pub means-every : {ts : List Bool} {P : Type 0} → MeansEvery ts P → Means (every ts) P
means-every m = record { holds = m.holds; tests = m.tests }

pub means-last : {a : Bool} {P : Type 0} → Means a P → MeansEvery (a ∷ []) P
unfolding every
means-last {a = true} m = record { holds = m.holds; tests = m.tests }
means-last {a = false} m = record { holds = m.holds; tests = m.tests }

pub means-and : {a : Bool} {ts : List Bool} {P Q : Type 0} → Means a P → MeansEvery ts Q → MeansEvery (a ∷ ts) (P × Q)
unfolding every
means-and {a = true} m n = record { holds = λ e. (m.holds refl, n.holds e); tests = λ pq. n.tests pq.1 }
means-and {a = false} m n = record { holds = λ e. absurd (false≢true e); tests = λ pq. m.tests pq.0 }

-- the same, where what the tests after the first mean is known only where that passes
pub means-first : {a : Bool} {ts : List Bool} {P Q : Type 0} → Means a P → (P → MeansEvery ts Q) → MeansEvery (a ∷ ts) (P × Q)
unfolding every
means-first {a = true} m n = record { holds = λ e. (m.holds refl, (n (m.holds refl)).holds e); tests = λ pq. (n pq.0).tests pq.1 }
means-first {a = false} m n = record { holds = λ e. absurd (false≢true e); tests = λ pq. m.tests pq.0 }

pub means-imp : {a b : Bool} {P Q : Type 0} → Means a P → Means b Q → Means (implies a b) (P → Q)
unfolding implies
means-imp {a = true} m n = record { holds = λ e p. n.holds e; tests = λ f. n.tests (f (m.holds refl)) }
means-imp {a = false} m n = record { holds = λ e p. absurd (false≢true (m.tests p)); tests = λ f. refl }

-- a choice between two tests, each known only where it is chosen
pub means-choice : {a b c : Bool} {P Q R : Type 0} → Means a P → (P → Means b Q) → ((P → ⊥) → Means c R) → Means (cond a b c) ((P → Q) × ((P → ⊥) → R))
means-choice {a = true} m n k = record { holds = λ e. (λ p. (n p).holds e, λ o. absurd (o (m.holds refl))); tests = λ f. (n (m.holds refl)).tests (f.0 (m.holds refl)) }
means-choice {a = false} m n k = record {
  holds = λ e. (λ p. absurd (false≢true (m.tests p)), λ o. (k o).holds e);
  tests = λ f. (k (λ p. false≢true (m.tests p))).tests (f.1 (λ p. false≢true (m.tests p)));
}

pub means-cond : {a b c : Bool} {P Q R : Type 0} → Means a P → Means b Q → Means c R → Means (cond a b c) ((P → Q) × ((P → ⊥) → R))
means-cond m n k = means-choice m (λ _. n) (λ _. k)

-- one of two tests passes: where the first does not
pub means-or : {a b : Bool} {P Q : Type 0} → Means a P → Means b Q → Means (some (a ∷ b ∷ [])) ((P → ⊥) → Q)
unfolding some
means-or {a = true} m n = record { holds = λ e o. absurd (o (m.holds refl)); tests = λ f. refl }
means-or {a = false} {b = true} m n = record { holds = λ e o. n.holds refl; tests = λ f. refl }
means-or {a = false} {b = false} m n = record { holds = λ e o. absurd (false≢true e); tests = λ f. n.tests (f (λ p. false≢true (m.tests p))) }

pub means-or3 : {a b c : Bool} {P Q R : Type 0} → Means a P → Means b Q → Means c R → Means (some (a ∷ b ∷ c ∷ [])) ((P → ⊥) → (Q → ⊥) → R)
unfolding some
means-or3 {a = true} m n k = record { holds = λ e o. absurd (o (m.holds refl)); tests = λ f. refl }
means-or3 {a = false} {b = true} m n k = record { holds = λ e o u. absurd (u (n.holds refl)); tests = λ f. refl }
means-or3 {a = false} {b = false} {c = true} m n k = record { holds = λ e o u. k.holds refl; tests = λ f. refl }
means-or3 {a = false} {b = false} {c = false} m n k = record { holds = λ e o u. absurd (false≢true e); tests = λ f. k.tests (f (λ p. false≢true (m.tests p)) (λ q. false≢true (n.tests q))) }

pub means-all : (n : ℕ) (f : ℕ → Bool) (P : ℕ → Type 0) → ((i : ℕ) → Means (f i) (P i)) → Means (all f 0 n) ((i : ℕ) → i < n → P i)
means-all n f P m = record {
  holds = λ e i h. (m i).holds (all-at f 0 n e i (omega arith) h);
  tests = λ p. all_of f 0 n (λ i _ h. (m i).tests (p i h));
}

-- the same, where what a test means is known below n only
pub means-within : (n : ℕ) (f : ℕ → Bool) (P : ℕ → Type 0) → ((i : ℕ) → i < n → Means (f i) (P i)) → Means (all f 0 n) ((i : ℕ) → i < n → P i)
means-within n f P m = record {
  holds = λ e i h. (m i h).holds (all-at f 0 n e i (omega arith) h);
  tests = λ p. all_of f 0 n (λ i _ h. (m i h).tests (p i h));
}

pub and_left : (a b : Bool) → a && b ≡ true → a ≡ true
and_left true b e = refl
and_left false b e = e

pub and_right : (a b : Bool) → a && b ≡ true → b ≡ true
and_right true b e = e
and_right false b e = absurd (false≢true e)

-- ---- one value of a function changed

abbrev pub upd : {A : Type 0} → (ℕ → A) → ℕ → A → ℕ → A
upd f j v i = cond (eqb i j) v (f i)

cond-elim : {A : Type 0} (P : A → Type 0) (b : Bool) (x y : A) → (b ≡ true → P x) → (b ≡ false → P y) → P (cond b x y)
cond-elim P true x y f g = f refl
cond-elim P false x y f g = g refl

pub upd-elim : {A : Type 0} (P : A → Type 0) (f : ℕ → A) (j : ℕ) (v : A) (i : ℕ) → (i ≡ j → P v) → ((i ≡ j → ⊥) → P (f i)) → P (upd f j v i)
upd-elim P f j v i a b = cond-elim P (eqb i j) v (f i) (λ e. a (eqb-true i j e)) (λ e. b (eqb-false i j e))

pub upd_same : {A : Type 0} (f : ℕ → A) (j : ℕ) (v : A) → upd f j v j ≡ v
upd_same f j v = rw (eq-eqb j j refl)

pub upd_other : {A : Type 0} (f : ℕ → A) (j : ℕ) (v : A) (i : ℕ) → (i ≡ j → ⊥) → upd f j v i ≡ f i
upd_other f j v i n = rw (ne_eqb i j n)

-- the value at row i, column k of a table changed. The column is looked at first: where both columns are numerals antt computes that test,
-- so that every other column of the changed table is, by computation, what it was
abbrev pub upd2 : (ℕ → ℕ → ℕ) → ℕ → ℕ → ℕ → ℕ → ℕ → ℕ
upd2 f j c v i k = cond (eqb k c) (cond (eqb i j) v (f i k)) (f i k)

-- the same, the row looked at first: another row of the changed table is what it was, once the test on the rows is known
abbrev pub upd_row : (ℕ → ℕ → ℕ) → ℕ → ℕ → ℕ → ℕ → ℕ → ℕ
upd_row f j c v = upd f j (upd (f j) c v)

-- s is j or is not; with the test, for `rw` to put into a changed table
pub split : (s j : ℕ) {G : Type 0} → (s ≡ j → eqb s j ≡ true → G) → ((s ≡ j → ⊥) → eqb s j ≡ false → G) → G
split s j {G} f g = go (eqb s j) refl
  where
    go : (b : Bool) → eqb s j ≡ b → G
    go true e = f (eqb-true s j e) e
    go false e = g (eqb-false s j e) e

-- a row of a table of which one word changed
pub upd2-elim : (P : (ℕ → ℕ) → Type 0) (f : ℕ → ℕ → ℕ) (j c v i : ℕ) → (i ≡ j → P (upd (f i) c v)) → ((i ≡ j → ⊥) → P (f i)) → P (upd2 f j c v i)
upd2-elim P f j c v i a b = split i j
    (λ q e. subst P (fun_ext (λ k. rw e)) (a q))
    (λ n e. subst P (fun_ext (λ k. rw e (cond-elim (λ x. f i k ≡ x) (eqb k c) (f i k) (f i k) (λ _. refl) (λ _. refl)))) (b n))
