-- What a call leaves: its answer as it crosses to C, the reader's buffer, and the four tables.
use Rattle.std.specs.Prelude.{ℕ, List}
use Rattle.rules.specs.Store.{Store}
use Rattle.rules.specs.Step.{Outcome, answer_of}
use Rattle.rules.specs.declared.answer.Answer.{Answer}

pub record Lent : Type 0 where
  pub answer : Answer
  pub buffer : List ℕ
  pub store : Store

abbrev pub lent : Answer → List ℕ → Store → Lent
lent a b s = record { answer = a; buffer = b; store = s }

-- an outcome of the rules, as it is lent back
abbrev pub lent_of : Outcome → Lent
lent_of o = lent (answer_of o.reply) o.reply.buffer o.store
