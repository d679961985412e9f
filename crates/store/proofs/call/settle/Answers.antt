use Prim.Native.Nat.{ℕ}
use mathlib.Core.Path.{◌≡◌, ap, ◌∙◌}
use mathlib.Core.List.{List}
use Rattle.rules.specs.Store.{Store}
use Rattle.rules.specs.Calls.{Call}
use Rattle.rules.specs.Effects.{carry_out}
use Rattle.rules.specs.Step.{outcome_of, into, reply_to, store_after}
use Rattle.rules.specs.declared.answer.Answer.{Answer}
use Rattle.rules.specs.declared.decision.Output.{Output}
use Rattle.rules.specs.declared.decision.Effect.{Effect}
use Rattle.rules.specs.Decisions.{Granted}
use Rattle.reply.specs.Answers.{Said, said, said_of}
use Rattle.store.specs.Lent.{lent, lent_of}
use Rattle.store.proofs.call.settle.Goals as goal

-- what the output says, and then what the effect does
granted : (R : List ℕ) (s : Store) (c : Call) (n : ℕ) (o : Output) (e : Effect) {a : Answer} {b : List ℕ} {t : Store}
    → said a b ≡ said_of R s n o c.buffer → t ≡ carry_out c e s → lent a b t ≡ lent_of (outcome_of R s c (into c.buffer) (Granted n o e))
unfolding outcome_of reply_to store_after said_of
granted R s c n o e {a} {b} {t} h k = ap (λ (x : Said). lent x.answer x.buffer t) h ∙ ap (λ (x : Store). lent (said_of R s n o c.buffer).answer (said_of R s n o c.buffer).buffer x) k

pub returns-in-Err : goal.returns-in-Err
unfolding outcome_of reply_to store_after
returns-in-Err c = rw (c.in-Err.is, c.refused_answer.ensures)

pub returns-in-Ok : goal.returns-in-Ok
returns-in-Ok c = rw c.in-Ok.is (granted _ _ _ _ _ _ (c.say-a.ensures _ _) (c.carry_out.ensures c.args.buffer.now))
