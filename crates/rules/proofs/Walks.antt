-- What holds of the locations that a walk comes to: the laws of its steps, and one induction over its names and the texts of the links that it
-- follows. And that walk and follower call for each other, with no number that makes them end.
use Prim.Native.Nat.{ℕ, zero, suc, ◌+◌, ◌-◌, ◌≤◌}
use mathlib.Core.Path.{◌≡◌, refl, subst}
use mathlib.Core.Bool.{Bool, true, false, cond}
use mathlib.Core.List.{List, [], ◌∷◌}
use native.Mathlib.Nat.{le_refl}
use native.Mathlib.Omega.{arith}
use lib.Dec.{ltb}
use lib.ListN.{length}
use Rattle.std.specs.Prelude.{Ok, Err}
use Rattle.rules.specs.Choice.{every}
use Rattle.rules.specs.Layout.{FOLLOWS}
use Rattle.rules.specs.Store.{Tree}
use Rattle.rules.specs.Paths.{Name, names, last_name}
use Rattle.rules.specs.Walk.{need_at, on_reached, is_link, entered, lookup, start, link_text, stop_at, follows, follow_by, here, walk_by, follower, walk}
use Rattle.rules.specs.declared.ids.Dirent.{Dirent}
use Rattle.rules.specs.declared.request.Subject.{Subject}
use Rattle.rules.specs.declared.refusal.Refusal.{Refusal}
use Rattle.rules.specs.declared.refusal.Refusal.TheVariants.{TooDeep}
use Rattle.rules.specs.declared.decision.Location.{Location}
use Rattle.rules.specs.declared.decision.Intent.{Intent}
use Rattle.rules.specs.declared.decision.Intent.TheVariants.{Find, Follow, Create}
use Rattle.rules.specs.Decisions.{Walk, Reached, Stopped}

-- P holds of the location that a walk comes to
pub data WalkFit (P : Location → Type 0) : Walk → Type 0 where
  reached : (at : Location) → P at → WalkFit P (Reached at)
  stopped : (r : Refusal) (k : ℕ) → WalkFit P (Stopped r k)

pub need_at-fit : {P : Location → Type 0} (b : Bool) (r : Refusal) (k : ℕ) (w : Walk) → (b ≡ true → WalkFit P w) → WalkFit P (need_at b r k w)
unfolding need_at
need_at-fit true r k w f = f refl
need_at-fit false r k w f = stopped r k

pub on_reached-fit : {P R : Location → Type 0} {w : Walk} (f : Location → Walk) → WalkFit P w → ((at : Location) → P at → WalkFit R (f at)) → WalkFit R (on_reached w f)
unfolding on_reached
on_reached-fit f (reached at p) g = g at p
on_reached-fit f (stopped r k) g = stopped r k

stop_at-fit : {P : Location → Type 0} (k : ℕ) {w : Walk} → WalkFit P w → WalkFit P (stop_at k w)
unfolding stop_at
stop_at-fit k (reached at p) = reached at p
stop_at-fit k (stopped r n) = stopped r k

-- the same as a function of the walk
unfoldable WalkOf : (Location → Type 0) → Walk → Type 0
WalkOf P (Ok at) = P at
WalkOf P (Err stop) = Unit {0}

walk_of : {P : Location → Type 0} {w : Walk} → WalkFit P w → WalkOf P w
unfolding WalkOf
walk_of (reached at p) = p
walk_of (stopped r k) = tt

pub fit_at : {P : Location → Type 0} {w : Walk} → WalkFit P w → (at : Location) → w ≡ Reached at → P at
unfolding WalkOf
fit_at {P} f at e = subst (WalkOf P) e (walk_of f)

-- every one of a list
unfoldable pub Each : {A : Type 0} → (A → Type 0) → List A → Type 0
Each P [] = Unit {0}
Each P (x ∷ xs) = P x × Each P xs

-- ---- one induction

-- What a walk keeps. G holds of its names. P holds where a name is looked for: L where it is found, to be followed; a link there sends the walk to the
-- root, along names that have G.
pub record Kept (t : Tree) (Q : List ℕ) (who : Subject) (G : Name → Type 0) (P L : Location → Type 0) : Type 0 where
  pub looks : (n : Name) (k : ℕ) (at : Location) → G n → P at → WalkFit L (lookup Follow t Q who n k at)
  pub passes : (at : Location) → L at → is_link t.file at.slot ≡ false → P at
  pub starts : (at : Location) → L at → is_link t.file at.slot ≡ true → P (start (at.follows - 1))
  pub texts : (at : Location) → L at → is_link t.file at.slot ≡ true → Each G (names (link_text t at.slot))

last_step : (n m : Name) (ns : List Name) → last_name (n ∷ m ∷ ns) ≡ last_name (m ∷ ns)
last_step n m ns =
    let a : suc (suc (length ns)) - 1 ≡ suc (length ns) = omega arith in
    let b : suc (length ns) - 1 ≡ length ns = omega arith in
    rw (a, b)

module _ {t : Tree} {Q : List ℕ} {who : Subject} {G : Name → Type 0} {P L : Location → Type 0} (h : Kept t Q who G P L) where
  follow_by-fit : (text : Location → Walk) (k : ℕ) (at : Location) → L at → (is_link t.file at.slot ≡ true → WalkFit P (text (start (at.follows - 1)))) → WalkFit P (follow_by text t.file Follow k at)
  unfolding follow_by follows every
  follow_by-fit text k at l f = by (is_link t.file at.slot) refl
    where
      by : (b : Bool) → is_link t.file at.slot ≡ b → WalkFit P (cond (every (true ∷ b ∷ [])) (need_at (ltb 0 at.follows) TooDeep k (stop_at k (text (start (at.follows - 1))))) (Reached at))
      by true e = need_at-fit (ltb 0 at.follows) TooDeep k _ (λ _. stop_at-fit k (f e))
      by false e = reached at (h.passes at l e)

  module _ (follow : Intent → ℕ → Location → Walk) (f : (k : ℕ) (at : Location) → L at → WalkFit P (follow Follow k at)) where
    met-fit : (n : Name) (k : ℕ) (at : Location) → G n → P at → WalkFit P (on_reached (lookup Follow t Q who n k at) (follow Follow k))
    met-fit n k at g p = on_reached-fit _ (h.looks n k at g p) (λ to l. f k to l)

    followed-fit : (ns : List Name) (at : Location) (k : ℕ) → Each G ns → P at → WalkFit P (walk_by follow Follow t Q who at k ns)
    unfolding walk_by here Each
    followed-fit [] at k g p = reached at p
    followed-fit (n ∷ []) at k g p = on_reached-fit _ (met-fit n k at g.0 p) (λ next q. reached next q)
    followed-fit (n ∷ m ∷ ns) at k g p = on_reached-fit _ (met-fit n k at g.0 p) (λ next q. followed-fit (m ∷ ns) next (k + 1) g.1 q)

  follower-fit : (d k : ℕ) (at : Location) → L at → WalkFit P (follower d t Q who Follow k at)
  unfolding follower
  follower-fit zero k at l = follow_by-fit (λ from. Stopped TooDeep k) k at l (λ _. stopped TooDeep k)
  follower-fit (suc d) k at l = follow_by-fit (λ from. walk_by (follower d t Q who) Follow t Q who from 1 (names (link_text t at.slot))) k at l
      (λ e. followed-fit (follower d t Q who) (follower-fit d) (names (link_text t at.slot)) (start (at.follows - 1)) 1 (h.texts at l e) (h.starts at l e))

  -- a walk that follows its last name too
  pub follow-fit : (ns : List Name) (at : Location) (k : ℕ) → Each G ns → P at → WalkFit P (walk Follow t Q who at k ns)
  follow-fit = followed-fit (follower FOLLOWS t Q who) (follower-fit FOLLOWS)

  -- a walk that does not: R holds of its last name and where that leads
  module _ (intent : Intent) (stays : follows intent ≡ false) {R : Name → Location → Type 0} (last : (n : Name) (k : ℕ) (at : Location) → G n → P at → WalkFit (R n) (lookup intent t Q who n k at)) where
    unfollowed : (d k : ℕ) (at : Location) → follower d t Q who intent k at ≡ Reached at
    unfolding follower follow_by every
    unfollowed zero k at = rw stays
    unfollowed (suc d) k at = rw stays

    pub walk-fit : (n : Name) (ns : List Name) (at : Location) (k : ℕ) → Each G (n ∷ ns) → P at → WalkFit (R (last_name (n ∷ ns))) (walk intent t Q who at k (n ∷ ns))
    unfolding walk_by here Each
    walk-fit n [] at k g p = on_reached-fit _ (on_reached-fit _ (last n k at g.0 p) (λ to r. rw (unfollowed FOLLOWS k to) (reached to r))) (λ to r. reached to r)
    walk-fit n (m ∷ ns) at k g p = on_reached-fit _ (met-fit (follower FOLLOWS t Q who) (follower-fit FOLLOWS) n k at g.0 p)
        (λ to q. rw (last_step n m ns) (walk-fit m ns to (k + 1) g.1 q))

-- ---- follows are never gained

abbrev pub Within : ℕ → Location → Type 0
Within j at = at.follows ≤ j

-- where nothing is asked of names
pub any-names : (ns : List Name) → Each (λ _. Unit {0}) ns
unfolding Each
any-names [] = tt
any-names (n ∷ ns) = (tt, any-names ns)

module _ (t : Tree) (Q : List ℕ) (who : Subject) where
  entered-within : (j : ℕ) (intent : Intent) (D : List ℕ) (at : Location) (k : ℕ) (i : Dirent) → Within j at → WalkFit (Within j) (entered intent D at k i)
  unfolding entered
  entered-within j Find D at k i p = need_at-fit _ _ _ _ (λ _. reached _ p)
  entered-within j Follow D at k i p = need_at-fit _ _ _ _ (λ _. reached _ p)
  entered-within j Create D at k i p = reached _ p

  pub lookup-within : (j : ℕ) (intent : Intent) (n : Name) (k : ℕ) (at : Location) → Within j at → WalkFit (Within j) (lookup intent t Q who n k at)
  unfolding lookup
  lookup-within j intent n k at p = need_at-fit _ _ _ _ (λ _. need_at-fit _ _ _ _ (λ _. need_at-fit _ _ _ _ (λ _. entered-within j intent _ at k _ p)))

  within : (j : ℕ) → Kept t Q who (λ _. Unit {0}) (Within j) (Within j)
  within j = record {
    looks = λ n k at _ p. lookup-within j Follow n k at p;
    passes = λ at p _. p;
    starts = λ at p _. omega (arith, p);
    texts = λ at _ _. any-names (names (link_text t at.slot));
  }

  pub follower-within : (d j : ℕ) (intent : Intent) (k : ℕ) (at : Location) → Within j at → WalkFit (Within j) (follower d t Q who intent k at)
  follower-within d j Follow k at p = follower-fit (within j) d k at p
  follower-within d j Find k at p = rw (unfollowed (within j) Find (unfold follows in refl) {R = λ _. Within j} (λ n k to _ q. lookup-within j Find n k to q) d k at) (reached at p)
  follower-within d j Create k at p = rw (unfollowed (within j) Create (unfold follows in refl) {R = λ _. Within j} (λ n k to _ q. lookup-within j Create n k to q) d k at) (reached at p)

  -- ---- two followers that agree up to j follows make the same walk

  module _ (j : ℕ) (f g : Intent → ℕ → Location → Walk) (same : (intent : Intent) (k : ℕ) (at : Location) → Within j at → f intent k at ≡ g intent k at)
      (kept : (intent : Intent) (k : ℕ) (at : Location) → Within j at → WalkFit (Within j) (g intent k at)) (intent : Intent) where
    on_same : (a b : Location → Walk) → ((at : Location) → Within j at → a at ≡ b at) → (w : Walk) → WalkFit (Within j) w → on_reached w a ≡ on_reached w b
    unfolding on_reached
    on_same a b h _ (reached at p) = h at p
    on_same a b h _ (stopped r k) = refl

    walk_same : (ns : List Name) (at : Location) (k : ℕ) → Within j at → walk_by f intent t Q who at k ns ≡ walk_by g intent t Q who at k ns
    unfolding walk_by
    walk_same [] at k p = refl
    walk_same (n ∷ ns) at k p =
        let look : WalkFit (Within j) (lookup (here ns intent) t Q who n k at) = lookup-within j (here ns intent) n k at p in
        let step : on_reached (lookup (here ns intent) t Q who n k at) (f (here ns intent) k) ≡ on_reached (lookup (here ns intent) t Q who n k at) (g (here ns intent) k) =
        on_same _ _ (λ to q. same (here ns intent) k to q) (lookup (here ns intent) t Q who n k at) look in
        rw step (on_same _ _ (λ next q. walk_same ns next (k + 1) q) _ (on_reached-fit _ look (λ to q. kept (here ns intent) k to q)))

  follow_by-same : (a b : Location → Walk) (intent : Intent) (k : ℕ) (at : Location) → ((i : ℕ) → at.follows ≡ suc i → a (start i) ≡ b (start i)) → follow_by a t.file intent k at ≡ follow_by b t.file intent k at
  unfolding follow_by need_at
  follow_by-same a b intent k at h = by at.follows refl
    where
      by : (j : ℕ) → at.follows ≡ j → follow_by a t.file intent k at ≡ follow_by b t.file intent k at
      by zero e = rw e
      by (suc i) e = let x : suc i - 1 ≡ i = omega arith in rw (e, x, h i e)

  -- one more for the number that makes the definition end changes nothing
  stable : (d : ℕ) (intent : Intent) (k : ℕ) (at : Location) → Within d at → follower d t Q who intent k at ≡ follower (suc d) t Q who intent k at
  unfolding follower
  stable zero intent k at p = follow_by-same _ _ intent k at (λ i e. absurd (omega (arith, p, e)))
  stable (suc d) intent k at p = follow_by-same _ _ intent k at (λ i e. walk_same i (follower d t Q who) (follower (suc d) t Q who) (λ intent k to q. stable d intent k to (omega (arith, p, e, q)))
      (λ intent k to q. follower-within (suc d) i intent k to q) Follow (names (link_text t at.slot)) (start i) 1 (le_refl i))

  -- the follower walks along the text
  pub again : (intent : Intent) (k : ℕ) (at : Location) → Within FOLLOWS at
      → follower FOLLOWS t Q who intent k at ≡ follow_by (λ from. walk Follow t Q who from 1 (names (link_text t at.slot))) t.file intent k at
  unfolding follower
  again intent k at p = stable FOLLOWS intent k at p

  -- ---- without links every walk is along its names alone

  pub no-links : ((at : Location) → is_link t.file at.slot ≡ false) → (intent : Intent) (at : Location) (k : ℕ) (ns : List Name) → walk intent t Q who at k ns ≡ walk_by (λ _ _ to. Reached to) intent t Q who at k ns
  unfolding follower follow_by every follows
  no-links none intent at k ns = walk_same at.follows (follower FOLLOWS t Q who) (λ _ _ to. Reached to) (λ intent k to _. nothing intent k to) (λ _ _ to p. reached to p) intent ns at k (le_refl at.follows)
    where
      nothing : (intent : Intent) (k : ℕ) (to : Location) → follower FOLLOWS t Q who intent k to ≡ Reached to
      nothing Find k to = refl
      nothing Follow k to = rw (none to)
      nothing Create k to = refl
