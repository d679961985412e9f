-- One call or borrowing read: two related stores answer alike and stay related.
use mathlib.Core.Path.{◌≡◌, refl, ap₂, subst}
use mathlib.Core.Bool.{Bool, true, false, cond}
use mathlib.Core.List.{List, [], ◌∷◌}
use Prim.Native.Nat.{ℕ, ◌<◌}
use Rattle.rules.specs.Choice.{every}
use Rattle.rules.specs.Layout.{LABELS, PROCESS_LABEL}
use Rattle.rules.specs.Rights.{moved}
use Rattle.rules.specs.Store.{Store, Fixed, View, view}
use Rattle.rules.specs.Rom.{seen, rom_sound}
use Rattle.rules.specs.Calls.{Call}
use Rattle.rules.specs.Decide.{decide, decide_borrow}
use Rattle.rules.specs.Refusals.{GRANTED}
use Rattle.rules.specs.Sound.{sound, store_sound, slots_sized, sizes_sound, tables_sound, opens_within, policy_sound}
use Rattle.rules.specs.Step.{Outcome, fields_out, refused_reply, reply_to, store_after, outcome_of, into, act, step, handed, read_of, act_borrow, step_borrow, Action, Calls, Borrows, serve}
use Rattle.rules.specs.declared.refusal.Refusal.TheVariants.{Unsound}
use Rattle.rules.specs.Decisions.{Decision}
use Rattle.rules.proofs.Passed.{Fit, granting, refusing}
use Rattle.secrecy.specs.Claim.{may_read}
use Rattle.secrecy.proofs.Tables.{Own}
use Rattle.secrecy.proofs.Related.{Apart, Secret, Related, apart, same, view-same}
use Rattle.secrecy.proofs.Fit.{Grant, decide-fit, borrow-fit}
use Rattle.secrecy.proofs.Facts.{based, small-label}
use Rattle.secrecy.proofs.Kept.{effect-keep, bytes_same, name-same}

-- ---- an action: on tables that are sound, and on any

abbrev pub attempt : Fixed → Store → Action → Outcome
attempt K s (Calls c) = act K s c
attempt K s (Borrows p i n) = act_borrow K s p i n

-- the buffer that it is lent
abbrev lent : Action → List ℕ
lent (Calls c) = c.buffer
lent (Borrows p i n) = []

abbrev pub unsound : Action → Store → Outcome
unsound x s = record { reply = refused_reply Unsound 0 (lent x); store = s }

pub serve_is : (K : Fixed) (s : Store) (x : Action) → serve K s x ≡ cond (sound K s) (attempt K s x) (unsound x s)
unfolding serve step step_borrow
serve_is K s (Calls c) = refl
serve_is K s (Borrows p i n) = refl

-- ---- two related stores

-- the soundness test sees no difference either
sizes-same : (f n : ℕ) (s s' : Store) → Apart f n s s' → sizes_sound s ≡ sizes_sound s'
unfolding sizes_sound slots_sized
sizes-same f n s s' a = rw (a.files, a.contents.size, a.open_files, a.processes)

pub sound-same : (K : Fixed) (f n L : ℕ) (s s' : Store) → Apart f n s s' → Own f n L s.files → sound K s ≡ sound K s'
unfolding sound store_sound
sound-same K f n L s s' a o = ap₂ (λ (b : Bool) (v : View). every (policy_sound K.policy ∷ rom_sound K.rom ∷ cond b (every (tables_sound v ∷ opens_within K.rom v.open_files ∷ [])) false ∷ [])) (sizes-same f n s s' a) (view-same f n L s s' a o)

pub record Alike (reach : ℕ → Type 0) (f n L : ℕ) (x x' : Outcome) : Type 0 where
  pub replies : x.reply ≡ x'.reply
  pub stores : Related reach f n L x.store x'.store

module _ (K : Fixed) (reach : ℕ → Type 0) (f n L : ℕ) (no-right : (l : ℕ) → reach l → may_read K.policy l L ≡ false)
    (closed-under : (l m : ℕ) → m < LABELS → reach l → reach (moved K.policy l m)) where
  -- what the rules see of s
  abbrev seen_of : Store → View
  seen_of s = seen K.rom (view s)

  outcome-alike : (s s' : Store) → Apart f n s s' → Secret reach f n L s → sound K s ≡ true → (c : Call) (put : List ℕ → List ℕ) (d : Decision) → Fit (Grant K.policy (seen_of s) c.process) d
      → Alike reach f n L (outcome_of K.rom s c put d) (outcome_of K.rom s' c put d)
  unfolding outcome_of reply_to store_after
  outcome-alike s s' a z h c put _ (refusing r k) = record { replies = refl; stores = apart a z }
  outcome-alike s s' a z h c put _ (granting value o e g) = record {
    replies = ap₂ (λ (x y : List ℕ). record { refusal = GRANTED; stop = 0; value = value; name = x; fields = fields_out o; buffer = put y })
        (name-same K reach f n L no-right closed-under s s' a z (small-label K s h) o) (bytes_same K reach f n L no-right closed-under s s' a z (small-label K s h) c.process o reached g.output-fit);
    stores = effect-keep K reach f n L no-right closed-under s s' a z (small-label K s h) c e reached g.effect-fit;
  }
    where
      reached : reach ((view s).proc c.process.0 PROCESS_LABEL)
      reached = z.labels.used c.process.0 g.caller.small g.caller.used

  -- a decision made on what the rules see
  decided-alike : (s s' : Store) → Apart f n s s' → Secret reach f n L s → sound K s ≡ true → (c : Call) (put : List ℕ → List ℕ) (g : View → Decision) → Fit (Grant K.policy (seen_of s) c.process) (g (seen_of s))
      → Alike reach f n L (outcome_of K.rom s c put (g (seen_of s))) (outcome_of K.rom s' c put (g (seen_of s')))
  decided-alike s s' a z h c put g fits =
      subst (λ (v : View). Alike reach f n L (outcome_of K.rom s c put (g (seen_of s))) (outcome_of K.rom s' c put (g (seen K.rom v)))) (view-same f n L s s' a z.own)
      (outcome-alike s s' a z h c put (g (seen_of s)) fits)

  attempt-alike : (s s' : Store) → Apart f n s s' → Secret reach f n L s → sound K s ≡ true → (x : Action) → Alike reach f n L (attempt K s x) (attempt K s' x)
  unfolding act act_borrow
  attempt-alike s s' a z h (Calls c) = decided-alike s s' a z h c (into c.buffer) (λ v. decide K v c) (decide-fit K (seen_of s) (based K s h) c)
  attempt-alike s s' a z h (Borrows p i m) = decided-alike s s' a z h (read_of p i m) handed (λ v. decide_borrow K v p i m) (borrow-fit K (seen_of s) (based K s h) p i m)

  pub serve-alike : (x : Action) (s s' : Store) → Related reach f n L s s' → Alike reach f n L (serve K s x) (serve K s' x)
  serve-alike x s s' (same e) = subst (λ (t : Store). Alike reach f n L (serve K s x) (serve K t x)) e (record { replies = refl; stores = same refl })
  serve-alike x s s' (apart a z) = rw (serve_is K s x, serve_is K s' x)
      (subst (λ (b : Bool). Alike reach f n L (cond (sound K s) (attempt K s x) (unsound x s)) (cond b (attempt K s' x) (unsound x s'))) (sound-same K f n L s s' a z.own) (go (sound K s) refl))
    where
      go : (b : Bool) → sound K s ≡ b → Alike reach f n L (cond b (attempt K s x) (unsound x s)) (cond b (attempt K s' x) (unsound x s'))
      go true e = attempt-alike s s' a z e x
      go false e = record { replies = refl; stores = apart a z }
