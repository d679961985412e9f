-- Demand 3, proved.
use mathlib.Core.Path.{◌≡◌, refl, ap, ap₂, subst}
use mathlib.Core.Bool.{Bool, true, false, false≢true, cond}
use mathlib.Core.List.{List, [], ◌∷◌}
use mathlib.Core.Logic.{inl, inr}
use Prim.Native.Nat.{ℕ, ◌≤◌, ◌<◌}
use native.Mathlib.Omega.{arith}
use borrow.Author.Tests.{eqb-false, lt-ltb, eq-eqb}
use lib.Dec.{eqb}
use Rattle.rules.specs.Choice.{every, some}
use Rattle.rules.specs.Layout.{SLOTS, BLOCK, FILE_WIDTH, PROCESSES, LABELS, FILE_KIND, FILE_LABEL, FILE_LENGTH, PLAIN, NO_TRANSITION}
use Rattle.rules.specs.Rights.{transition, moved}
use Rattle.rules.specs.Store.{Store, Fixed, view, tab, pid_of}
use Rattle.rules.specs.Checks.{in_use, slot_free}
use Rattle.rules.specs.Sound.{sound}
use Rattle.rules.specs.Step.{Reply, Action, serve, answers, final}
use Rattle.secrecy.specs.Claim.{DifferInBytes, Reached, held, given, may_read, Supposed, freed, Claimed, Secrecy}
use Rattle.secrecy.proofs.Agree.{agree-block, agree-rest, agree-of-blocks}
use Rattle.secrecy.proofs.Tables.{Own, Labels}
use Rattle.secrecy.proofs.Related.{Apart, Related, apart, same}
use Rattle.secrecy.proofs.Facts.{files-size, processes-size, plain-slot, plain-length}
use Rattle.secrecy.proofs.Alike.{Alike, serve-alike}

-- ---- from what is supposed to the relation that the calls keep

apart_of : (f : ℕ) (s s' : Store) → tab FILE_WIDTH s.files f FILE_LENGTH ≤ BLOCK → DifferInBytes f s s' → Apart f (tab FILE_WIDTH s.files f FILE_LENGTH) s s'
apart_of f s s' small d = record {
  files = d.files;
  open_files = d.open_files;
  processes = d.processes;
  contents = agree-of-blocks f (tab FILE_WIDTH s.files f FILE_LENGTH) s.contents s'.contents d.size d.others d.rest;
  small = small;
}

labels-of : (K : Fixed) (s : Store) → sound K s ≡ true → Labels (Reached K.policy s) s.processes
unfolding in_use every
labels-of K s h = record { room = processes-size K s h; used = λ p lt u. held _ (record { process = pid_of p; used = simp (lt-ltb p PROCESSES lt, eq-eqb _ _ u); has = refl }) }

start : (K : Fixed) (f : ℕ) (s s' : Store) → Supposed K f s s' → Related (Reached K.policy s) f (tab FILE_WIDTH s.files f FILE_LENGTH) (tab FILE_WIDTH s.files f FILE_LABEL) s s'
start K f s s' h =
    let plain : tab FILE_WIDTH s.files f FILE_KIND ≡ PLAIN = h.differ.plain in
    let slot : f < SLOTS = plain-slot K s h.sound-one f plain in
    apart (apart_of f s s' (plain-length K s h.sound-one f plain) h.differ)
    (record {
      own = record { plain = plain; label = refl; within = omega arith; room = omega (arith, files-size K s h.sound-one); slot = slot };
      labels = labels-of K s h.sound-one;
    })

-- the labels reached are closed under execute
reach-closed : (Q : List ℕ) (s : Store) (l m : ℕ) → m < LABELS → Reached Q s l → Reached Q s (moved Q l m)
unfolding moved
reach-closed Q s l m h r = go (eqb (transition Q l m) NO_TRANSITION) refl
  where
    go : (b : Bool) → eqb (transition Q l m) NO_TRANSITION ≡ b → Reached Q s (cond b l (transition Q l m))
    go true e = r
    go false e = given l m h (eqb-false _ _ e) r

-- ---- a list of calls and borrowing reads

-- two stores that are apart differ in the file's bytes only
pub differ_of : (f n L : ℕ) (s s' : Store) → Apart f n s s' → Own f n L s.files → DifferInBytes f s s'
differ_of f n L s s' a o = record {
  plain = o.plain;
  files = a.files;
  open_files = a.open_files;
  processes = a.processes;
  size = a.contents.size;
  others = agree-block f n s.contents s'.contents a.contents a.small;
  rest = agree-rest f n s.contents s'.contents a.contents a.small (tab FILE_WIDTH s.files f FILE_LENGTH) o.within;
}

-- a plain file's slot is not free
not-freed : (f n L : ℕ) (s : Store) → Own f n L s.files → slot_free (view s).tree.file f ≡ false
unfolding slot_free
not-freed f n L s o = rw o.plain

last : (t : Bool) → cond t true false ≡ true → t ≡ true
last true e = e
last false e = e

module _ (K : Fixed) (reach : ℕ → Type 0) (f n L : ℕ) (no-right : (l : ℕ) → reach l → may_read K.policy l L ≡ false)
    (closed-under : (l m : ℕ) → m < LABELS → reach l → reach (moved K.policy l m)) where
  from-equal : (xs : List Action) (s s' : Store) → s ≡ s' → Claimed K f s s' xs
  from-equal xs s s' e = subst (λ (t : Store). Claimed K f s t xs) e (record { same-answers = refl; same-stores = inl refl; equal-once-freed = λ _. refl })

  run-alike : (xs : List Action) (s s' : Store) → Related reach f n L s s' → Claimed K f s s' xs
  unfolding answers final freed some
  run-alike [] s s' (same e) = from-equal [] s s' e
  run-alike [] s s' (apart a z) = record { same-answers = refl; same-stores = inr (differ_of f n L s s' a z.own); equal-once-freed = λ b. absurd (false≢true b) }
  run-alike (x ∷ xs) s s' r =
      let w : Alike reach f n L (serve K s x) (serve K s' x) = serve-alike K reach f n L no-right closed-under x s s' r in
      go w (run-alike xs (serve K s x).store (serve K s' x).store w.stores)
    where
      go : Alike reach f n L (serve K s x) (serve K s' x) → Claimed K f (serve K s x).store (serve K s' x).store xs → Claimed K f s s' (x ∷ xs)
      go w o = record {
        same-answers = ap₂ (λ (y : Reply) (ys : List Reply). y ∷ ys) w.replies o.same-answers;
        same-stores = o.same-stores;
        equal-once-freed = once w.stores;
      }
        where
          once : Related reach f n L (serve K s x).store (serve K s' x).store
              → cond (slot_free (view (serve K s x).store).tree.file f) true (cond (freed K f (serve K s x).store xs) true false) ≡ true
              → final K (serve K s x).store xs ≡ final K (serve K s' x).store xs
          once (same e) b = ap (λ (t : Store). final K t xs) e
          once (apart a z) b = o.equal-once-freed (last (freed K f (serve K s x).store xs) (rw (not-freed f n L (serve K s x).store z.own) at b))

-- ---- demand 3

pub secrecy : Secrecy
secrecy K f s s' h xs = run-alike K (Reached K.policy s) f (tab FILE_WIDTH s.files f FILE_LENGTH) (tab FILE_WIDTH s.files f FILE_LABEL) h.no_reader (reach-closed K.policy s) xs s s' (start K f s s' h)
