-- The claims hold.
use Rattle.rules.proofs.Unused.{unused-unseen}
use Rattle.preservation.specs.Claims.{Claims}
use Rattle.preservation.proofs.StoreChanges.{tables_of}
use Rattle.preservation.proofs.SoundStore.{means-sound}
use Rattle.preservation.proofs.Preserved.{step-sound, borrow-sound, final-sound}
use Rattle.preservation.proofs.TestedOnce.{tested-call, tested-borrow, tested-once}
use Rattle.preservation.proofs.RefusedLeaves.{refused-call, refused-borrow}
use Rattle.preservation.proofs.BitsChange.{bits-by-call}
use Rattle.preservation.proofs.OpenStays.{open_plain, open_stays, unlink-keeps-open}
use Rattle.preservation.proofs.Unwritten.{changed-by-write, open-unwritten}
use Rattle.preservation.proofs.NoWrap.{length-goes-up, links-go-up, references-go-up, offset-goes-on, granted-sums}
use Rattle.preservation.proofs.Transferred.{transferred-file}
use Rattle.preservation.proofs.Sizes.{other-size, other-part}
use Rattle.preservation.proofs.LinksStay.{link_stays}
use Rattle.preservation.proofs.Borrowed.{borrow-is-read, borrow-value, borrow-most}

pub claims : Claims
claims = record {
  call-keeps-sound = step-sound;
  borrow-keeps-sound = borrow-sound;
  calls-keep-sound = final-sound;
  tested-call = tested-call;
  tested-borrow = tested-borrow;
  tested-once = tested-once;
  refused-leaves-store = λ K s c n. (refused-call K s c n).0;
  refused-leaves-buffer = λ K s c n. (refused-call K s c n).1;
  refused-borrow-leaves-store = λ K s p i n g. (refused-borrow K s p i n g).0;
  refused-borrow-gives-nothing = λ K s p i n g. (refused-borrow K s p i n g).1;
  bits-by-owner = λ K s c f a b d. (bits-by-call K s c f a b d).1.1;
  bits-by-call-8 = λ K s c f a b d. let w = bits-by-call K s c f a b d in (w.1.0, w.0);
  open_plain = λ K s f e. unfold tables_of in open_plain s ((means-sound K s).holds e).store f;
  open_stays = open_stays;
  unlink-leaves-record = λ K s c f k q t. (unlink-keeps-open K s c f q t).words k;
  unlink-leaves-bytes = λ K s c f q t. (unlink-keeps-open K s c f q t).bytes;
  changed-by-write = changed-by-write;
  open-unwritten = open-unwritten;
  length_up = λ K s f e. length-goes-up s ((means-sound K s).holds e).store f;
  links-up = λ K s f e. links-go-up s ((means-sound K s).holds e).store f;
  references-up = λ K s i e. references-go-up s ((means-sound K s).holds e).store i;
  offset-plus = λ K s i n e. offset-goes-on s ((means-sound K s).holds e).store i n;
  granted-sums = granted-sums;
  other-size-refused = other-size;
  other-part-refused = other-part;
  unused-unseen = unused-unseen;
  link_stays = link_stays;
  borrow-is-read = borrow-is-read;
  borrow-value = borrow-value;
  borrow-most = borrow-most;
  transferred-file = transferred-file;
}
