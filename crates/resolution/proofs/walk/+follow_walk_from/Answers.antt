use Prim.Native.Nat.{ℕ, suc, ◌+◌, ◌-◌, ◌*◌, ◌^◌, ◌≤◌, ◌<◌}
use mathlib.Core.Path.{◌≡◌, sym, ◌∙◌}
use mathlib.Core.Bool.{Bool, true, false, cond, not}
use mathlib.Core.List.{List, [], ◌∷◌}
use native.Mathlib.Nat.{le_refl}
use native.Mathlib.Omega.{arith}
use borrow.Author.Tests.{not-true, not-false, lt-ltb, le-ltb}
use lib.ListN.{length, get_or}
use Rattle.rules.specs.Choice.{every}
use Rattle.rules.specs.Rom.{files_in, tree_in}
use Rattle.rules.specs.Paths.{names}
use Rattle.rules.specs.Walk.{need_at, on_reached, is_link, lookup, start, link_text, stop_at, follows, follow_by, walk_by, follower, walk}
use Rattle.rules.specs.declared.request.Subject.{Subject}
use Rattle.rules.specs.declared.refusal.Refusal.TheVariants.{TooDeep}
use Rattle.rules.specs.declared.decision.Location.{Location}
use Rattle.rules.specs.declared.decision.Intent.{Intent}
use Rattle.rules.specs.declared.decision.Intent.TheVariants.{Follow}
use Rattle.rules.specs.Decisions.{Walk, Reached, Stopped}
use Rattle.rules.specs.declared.decision.Stop.{Stop}
use Rattle.std.specs.Prelude.{Err}
use Rattle.rules.proofs.Choices.{passed_on}
use Rattle.rules.proofs.Walks.{fit_at, lookup-within, follower-within, again}
use Rattle.resolution.specs.declared.path_names.PathName.{PathName}
use Rattle.resolution.specs.declared.walk.Rest.{Rest}
use Rattle.resolution.specs.PathNames.{name_at, name_from}
use Rattle.resolution.specs.Walks.{lookup_by, rest_from, none_left, names_left, RestOf}
use Rattle.resolution.proofs.ByWords.{name-bytes, by-words}
use Rattle.resolution.proofs.Names.{few-names}
use Rattle.resolution.proofs.Walks.{on-last, rest_of, all_left, left-none, left-some, left-more, here-left}
use Rattle.resolution.proofs.walk.+follow_walk_from.Goals as goal

-- ---- the follower

module _ (R F C Q : List ℕ) (who : Subject) (at : Location) (k : ℕ) (intent : Intent) (b : at.follows ≤ 8) (f : Bool) (p : f ≡ every (follows intent ∷ is_link (files_in F) at.slot ∷ [])) where
  abbrev leads : Walk
  leads = follower 8 (tree_in R F C) Q who intent k at

  itself : not f ≡ true → Reached at ≡ leads
  unfolding follow_by
  itself e = rw (again (tree_in R F C) Q who intent k at b, ← p, not-true f e)

  module _ (e : not f ≡ false) where
    spent : at.follows ≡ 0 → Stopped TooDeep k ≡ leads
    unfolding follow_by need_at
    spent z = let l : at.follows ≤ 0 = omega (arith, z) in rw (again (tree_in R F C) Q who intent k at b, ← p, not-false f e, le-ltb 0 at.follows l)

    through : (at.follows ≡ 0 → ⊥) → (root : Location) → root ≡ start (at.follows - 1) → (text : List ℕ) → text ≡ link_text (tree_in R F C) at.slot → (rest : Rest) → rest ≡ rest_from text 0 1
        → (w r : Walk) → w ≡ walk Follow (tree_in R F C) Q who root rest.k (names_left text rest) → r ≡ stop_at k w → r ≡ leads
    unfolding follow_by need_at
    through z root d text x rest y w r u q =
        let l : 0 < at.follows = omega (arith, z) in
        let v : w ≡ walk Follow (tree_in R F C) Q who root 1 (names text) = u ∙ rw (y, all_left text) in
        rw (again (tree_in R F C) Q who intent k at b, ← p, not-false f e, lt-ltb 0 at.follows l, ← x, ← d, ← v) q

-- the walk along a text: one follow less, and at most 9 names
text-below : (at root : Location) (text : List ℕ) (rest : Rest) (μ : ℕ) → at.follows * 256 ≡ μ → at.follows ≤ 8 → (at.follows ≡ 0 → ⊥) → root ≡ start (at.follows - 1) → rest ≡ rest_from text 0 1
    → (root.follows * 256 + length (names_left text rest) < μ) × (RestOf text rest × (root.follows ≤ 8))
text-below at root text rest μ m b z d y =
    let j : root.follows ≡ at.follows - 1 = rw d in
    let few : length (names_left text rest) ≤ 9 = rw (y, all_left text) (few-names 9 text) in
    (omega (arith, m, z, j, few), (rw y (rest_of text 0 1 (omega arith)), omega (arith, b, j)))

-- ---- the walk

module _ (R F C Q : List ℕ) (who : Subject) (p : List ℕ) (rest : Rest) (at : Location) (intent : Intent) (n : RestOf p rest) (f : Bool) (d : f ≡ none_left p rest) where
  abbrev owed : Walk
  owed = walk intent (tree_in R F C) Q who at rest.k (names_left p rest)

  none : f ≡ true → Reached at ≡ owed
  unfolding walk_by
  none e = rw (left-none p rest n (sym d ∙ e))

  small : rest.k + 1 < 2 ^ 32
  small = omega (arith, n.few)

  module _ (some : f ≡ false) (x : PathName) (g : x ≡ name_from p rest.start) (ns : Rest) (e : ns ≡ rest_from p x.end (rest.k + 1)) where
    next : ns.k ≡ rest.k + 1
    next = rw e

    remain : RestOf p ns
    remain = rw e (rest_of p x.end (rest.k + 1) (omega (arith, (left-some p rest (sym d ∙ some)).1)))

    split : names_left p rest ≡ name_at p rest.start ∷ names_left p ns
    split = left-more p rest n (sym d ∙ some) ∙ rw (e, g)

    fewer : length (names_left p rest) ≡ suc (length (names_left p ns))
    fewer = rw split

    abbrev onward : Location → Walk
    onward next = walk intent (tree_in R F C) Q who next ns.k (names_left p ns)

    module _ (bc : (j : ℕ) → get_or C j 0 < 256) (bp : (j : ℕ) → get_or p j 0 < 256) (l : Bool) (z : l ≡ none_left p ns) (it : Intent) (h : it ≡ cond l intent Follow) (w : Walk) (v : w ≡ lookup_by it (tree_in R F C) Q who at x.low x.high rest.k) where
      looked : w ≡ lookup it (tree_in R F C) Q who (name_at p rest.start) rest.k at
      looked = v ∙ rw g (by-words it R F C Q who at (name_at p rest.start) rest.k bc (name-bytes p rest.start bp))

      first : owed ≡ on_reached (on_reached w (follower 8 (tree_in R F C) Q who it rest.k)) onward
      unfolding walk_by
      first = rw (split, here-left p ns remain l z intent, ← h, looked, next)

      refuse : (e : Stop) → w ≡ Err e → Err e ≡ owed
      unfolding on_reached
      refuse e q = rw (first, q)

      module _ (met : Location) (q : w ≡ Reached met) where
        -- what was looked for has no more follows left
        kept : met.follows ≤ at.follows
        kept = fit_at (lookup-within (tree_in R F C) Q who at.follows it (name_at p rest.start) rest.k at (le_refl at.follows)) met (sym looked ∙ q)

        follow-below-it : (μ : ℕ) → at.follows * 256 + length (names_left p rest) ≡ μ → at.follows ≤ 8 → (met.follows * 256 < μ) × (met.follows ≤ 8)
        follow-below-it μ m b = (omega (arith, kept, m, fewer), omega (arith, kept, b))

        module _ (y : Walk) (o : y ≡ follower 8 (tree_in R F C) Q who it rest.k met) where
          second : owed ≡ on_reached y onward
          unfolding on_reached
          second = rw (first, q, ← o)

          stop : (to : Location) → y ≡ Reached to → l ≡ true → Reached to ≡ owed
          stop to a u = sym a ∙ sym (second ∙ on-last intent (tree_in R F C) Q who y ns.k (names_left p ns) (left-none p ns remain (sym z ∙ u)))

          turn : (e : Stop) → y ≡ Err e → Err e ≡ owed
          unfolding on_reached
          turn e u = rw (second, u)

          on : (to : Location) (r : Walk) → y ≡ Reached to → r ≡ onward to → r ≡ owed
          unfolding on_reached
          on to r u v = rw (second, u) v

          walk-below-it : (to : Location) (μ : ℕ) → y ≡ Reached to → at.follows * 256 + length (names_left p rest) ≡ μ → at.follows ≤ 8 → (to.follows * 256 + length (names_left p ns) < μ) × (RestOf p ns × (to.follows ≤ 8))
          walk-below-it to μ u m b =
              let i : to.follows ≤ met.follows = fit_at (follower-within (tree_in R F C) Q who 8 met.follows it rest.k met (le_refl met.follows)) to (sym o ∙ u) in
              (omega (arith, kept, i, m, fewer), (remain, omega (arith, kept, i, b)))

pub follow-returns-then-not-is_followed : goal.follow-returns-then-not-is_followed
follow-returns-then-not-is_followed t c = search itself

pub follow-returns-then-at-eq0 : goal.follow-returns-then-at-eq0
follow-returns-then-at-eq0 t c = rw c.at.ensures (spent _ _ _ _ _ _ _ _ c.requires _ c.is_followed.ensures c.if-not-is_followed.false-raw c.if-at-eq0.true)

pub follow-walk_from-w-requires : goal.follow-walk_from-w-requires
follow-walk_from-w-requires t c = text-below c.args.at _ _ _ _ c.decreases c.requires c.if-at-eq0.false c.from_root-root.ensures c.rest_from-rest.ensures

pub follow-returns : goal.follow-returns
follow-returns t c = through c.args.t.now.rom.now c.args.t.now.files.now c.args.t.now.contents.now c.args.t.now.policy.now c.args.who c.args.at c.args.k c.args.intent c.requires _ c.is_followed.ensures c.if-not-is_followed.false-raw c.if-at-eq0.false _ c.from_root-root.ensures _ c.link_text-text.ensures _ c.rest_from-rest.ensures _ _ c.walk_from-w.ensures c.stop_at.ensures

pub walk_from-returns-then-none_left : goal.walk_from-returns-then-none_left
walk_from-returns-then-none_left t c = search none

pub walk_from-overflow_add-k : goal.walk_from-overflow_add-k
walk_from-overflow_add-k t c = record { fits = small c.args.t.now.rom.now c.args.t.now.files.now c.args.t.now.contents.now c.args.t.now.policy.now c.args.who c.args.path.now c.args.rest c.args.at c.args.intent c.requires.rest_of _ c.none_left.ensures }

pub walk_from-follow-requires : goal.walk_from-follow-requires
walk_from-follow-requires t c = follow-below-it c.args.t.now.rom.now c.args.t.now.files.now c.args.t.now.contents.now c.args.t.now.policy.now c.args.who c.args.path.now c.args.rest c.args.at c.args.intent c.requires.rest_of _ c.none_left.ensures c.if-none_left.false _ c.read_name-name.ensures _ c.rest_from-ns.ensures c.args.t.now.bytes (λ j. (c.type_inv.path j).fits) _ c.none_left-last.ensures _ c.here-it.ensures _ c.look_up.ensures _ c.in_ok-met.was _ c.decreases c.requires.follows_bound

pub walk_from-returns-then-last : goal.walk_from-returns-then-last
walk_from-returns-then-last t c = stop c.args.t.now.rom.now c.args.t.now.files.now c.args.t.now.contents.now c.args.t.now.policy.now c.args.who c.args.path.now c.args.rest c.args.at c.args.intent c.requires.rest_of _ c.none_left.ensures c.if-none_left.false _ c.read_name-name.ensures _ c.rest_from-ns.ensures c.args.t.now.bytes (λ j. (c.type_inv.path j).fits) _ c.none_left-last.ensures _ c.here-it.ensures _ c.look_up.ensures _ c.in_ok-met.was _ c.follow.ensures _ c.in_ok-to.was c.if-last.true

pub walk_from-walk_from-requires : goal.walk_from-walk_from-requires
walk_from-walk_from-requires t c = walk-below-it c.args.t.now.rom.now c.args.t.now.files.now c.args.t.now.contents.now c.args.t.now.policy.now c.args.who c.args.path.now c.args.rest c.args.at c.args.intent c.requires.rest_of _ c.none_left.ensures c.if-none_left.false _ c.read_name-name.ensures _ c.rest_from-ns.ensures c.args.t.now.bytes (λ j. (c.type_inv.path j).fits) _ c.none_left-last.ensures _ c.here-it.ensures _ c.look_up.ensures _ c.in_ok-met.was _ c.follow.ensures _ _ c.in_ok-to.was c.decreases c.requires.follows_bound

pub walk_from-returns-in_err-met : goal.walk_from-returns-in_err-met
walk_from-returns-in_err-met t c = passed_on _ _ c.from_residual.ensures.1 ∙ refuse c.args.t.now.rom.now c.args.t.now.files.now c.args.t.now.contents.now c.args.t.now.policy.now c.args.who c.args.path.now c.args.rest c.args.at c.args.intent c.requires.rest_of _ c.none_left.ensures c.if-none_left.false _ c.read_name-name.ensures _ c.rest_from-ns.ensures c.args.t.now.bytes (λ j. (c.type_inv.path j).fits) _ c.none_left-last.ensures _ c.here-it.ensures _ c.look_up.ensures _ c.in_err-met.was

pub walk_from-returns-in_err-to : goal.walk_from-returns-in_err-to
walk_from-returns-in_err-to t c = passed_on _ _ c.from_residual-in_err-to.ensures.1 ∙ turn c.args.t.now.rom.now c.args.t.now.files.now c.args.t.now.contents.now c.args.t.now.policy.now c.args.who c.args.path.now c.args.rest c.args.at c.args.intent c.requires.rest_of _ c.none_left.ensures c.if-none_left.false _ c.read_name-name.ensures _ c.rest_from-ns.ensures c.args.t.now.bytes (λ j. (c.type_inv.path j).fits) _ c.none_left-last.ensures _ c.here-it.ensures _ c.look_up.ensures _ c.in_ok-met.was _ c.follow.ensures _ c.in_err-to.was

pub walk_from-returns : goal.walk_from-returns
walk_from-returns t c = on c.args.t.now.rom.now c.args.t.now.files.now c.args.t.now.contents.now c.args.t.now.policy.now c.args.who c.args.path.now c.args.rest c.args.at c.args.intent c.requires.rest_of _ c.none_left.ensures c.if-none_left.false _ c.read_name-name.ensures _ c.rest_from-ns.ensures c.args.t.now.bytes (λ j. (c.type_inv.path j).fits) _ c.none_left-last.ensures _ c.here-it.ensures _ c.look_up.ensures _ c.in_ok-met.was _ c.follow.ensures _ _ c.in_ok-to.was c.walk_from.ensures
