-- A symbolic link of a sound store is named once, has bits 0 and a well formed path as text; so after any list of calls and borrowing reads.
use mathlib.Core.Path.{◌≡◌}
use mathlib.Core.Bool.{true}
use mathlib.Core.List.{List}
use Prim.Native.Nat.{ℕ, ◌<◌}
use native.Mathlib.Omega.{arith}
use Rattle.rules.specs.Layout.{SLOTS, FILE_KIND, LINK}
use Rattle.rules.specs.Store.{Store, Fixed}
use Rattle.rules.specs.Sound.{sound}
use Rattle.rules.specs.Step.{Action, final}
use Rattle.preservation.specs.Claims.{word, GoodLink}
use Rattle.preservation.proofs.StoreChanges.{tables_of}
use Rattle.preservation.proofs.SoundStore.{SoundStore, means-sound, text-ok}
use Rattle.preservation.proofs.Granted.{used-small}
use Rattle.preservation.proofs.Preserved.{final-sound}

good-link : (s : Store) → SoundStore s → (f : ℕ) → word s f FILE_KIND ≡ LINK → GoodLink s f
unfolding tables_of
good-link s h f k = record {
  named = h.tables.live.once f small (λ q. omega (arith, small, q)) (λ q. omega (arith, k, q)) (λ q. omega (arith, k, q)) (λ q. omega (arith, h.tables.slots.root-kind, rw q at k));
  bits = (h.tables.slots.texts f small k).no_bits;
  text = text-ok s h f small k;
}
  where
    small : f < SLOTS
    small = used-small s h f (λ q. omega (arith, k, q))

pub link_stays : (K : Fixed) (s : Store) (f : ℕ) (xs : List Action) → sound K s ≡ true → word (final K s xs) f FILE_KIND ≡ LINK → GoodLink (final K s xs) f
link_stays K s f xs e = good-link (final K s xs) ((means-sound K (final K s xs)).holds (final-sound K s xs e)).store f
