-- The stages of a call, put together, are the rules' call.
use mathlib.Core.Path.{◌≡◌, refl}
use mathlib.Core.Bool.{Bool, true, false}
use mathlib.Core.List.{List}
use Prim.Native.Nat.{ℕ}
use Rattle.std.specs.Prelude.{Ok, Err}
use Rattle.rules.specs.Store.{Store, Fixed}
use Rattle.rules.specs.Sound.{sound}
use Rattle.rules.specs.Calls.{Call}
use Rattle.rules.specs.Step.{reply_to, store_after, outcome_of, into, act, step, answer_of}
use Rattle.rules.specs.Decisions.{Decision}
use Rattle.reply.specs.Answers.{said, said_of}
use Rattle.stages.specs.Judged.{judged, act_if, answered_by}

-- a call is tested, decided, answered and done
pub step-judged : (K : Fixed) (s : Store) (c : Call) → step K s c ≡ act_if (sound K s) K s c
unfolding step act judged outcome_of reply_to store_after
step-judged K s c = by (sound K s) refl
  where
    by : (t : Bool) → sound K s ≡ t → step K s c ≡ act_if (sound K s) K s c
    by true e = rw e
    by false e = rw e

pub reply-answered : (R : List ℕ) (s : Store) (c : Call) (d : Decision) → answered_by R s d c.buffer ≡ said (answer_of (outcome_of R s c (into c.buffer) d).reply) (outcome_of R s c (into c.buffer) d).reply.buffer
unfolding answered_by said_of outcome_of reply_to
reply-answered R s c (Err stop) = refl
reply-answered R s c (Ok grant) = refl
