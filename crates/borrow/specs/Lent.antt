-- What a borrowing read hands back: the refusal, the bytes themselves, whose number is the value, and the store.
use Rattle.std.specs.Prelude.{ℕ, List}
use Rattle.rules.specs.Store.{Store}
use Rattle.rules.specs.Step.{Outcome}

pub record LentBack : Type 0 where
  pub refusal : ℕ
  pub bytes : List ℕ
  pub store : Store

abbrev pub lent_back : ℕ → List ℕ → Store → LentBack
lent_back r bs s = record { refusal = r; bytes = bs; store = s }

-- an outcome of the rules, as it is handed back
abbrev pub of_outcome : Outcome → LentBack
of_outcome o = lent_back o.reply.refusal o.reply.buffer o.store
