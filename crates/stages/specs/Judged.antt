-- The stages of a call: what is decided, and what is answered; a call whose soundness test was made before.
use Rattle.std.specs.Prelude.{ℕ, Bool, cond, Ok, Err, List}
use Rattle.rules.specs.Store.{Store, Fixed, view}
use Rattle.rules.specs.Refusals.{refusal_number}
use Rattle.rules.specs.Rom.{seen}
use Rattle.rules.specs.Calls.{Call}
use Rattle.rules.specs.Decide.{decide}
use Rattle.rules.specs.Step.{Outcome, outcome_of, into}
use Rattle.rules.specs.declared.refusal.Refusal.TheVariants.{Unsound}
use Rattle.rules.specs.Decisions.{Decision, Refused}
use Rattle.reply.specs.Answers.{Said, said, said_of, plain}

-- what is decided where `fit` says whether the store and the policy are sound: 1 comes first
unfoldable pub judged : (fit : Bool) → Fixed → Store → Call → Decision
judged fit K s c = cond fit (decide K (seen K.rom (view s)) c) (Refused Unsound 0)

-- the call so decided; with the test's own answer for `fit` it is the rules' `step`
abbrev pub act_if : (fit : Bool) → Fixed → Store → Call → Outcome
act_if fit K s c = outcome_of K.rom s c (into c.buffer) (judged fit K s c)

-- what is answered, and the buffer
unfoldable pub answered_by : List ℕ → Store → Decision → (buffer : List ℕ) → Said
answered_by R s (Err stop) buffer = said (plain (refusal_number stop.refusal) stop.name 0) buffer
answered_by R s (Ok grant) buffer = said_of R s grant.value grant.output buffer
