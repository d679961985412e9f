-- What may be relied on of a script's run, for every K (what no call changes: policy and factory part), script, store s, allowance and room: the record `Claims`
-- below, which proofs/Proved.antt proves. A run is `run n K S at room s` (script_rules): n calls allowed, the script S, which begins at `at`, so many
-- bytes of output.
use Rattle.std.specs.Prelude.{ℕ, ◌+◌, ◌-◌, ◌≤◌, ◌≡◌, cond, List, [], ◌∷◌, ◌++◌, map, length, drop}
use Rattle.rules.specs.Store.{Store, Fixed, zeros}
use Rattle.rules.specs.Calls.{Call}
use Rattle.rules.specs.Written.{Written, normal}
use Rattle.rules.specs.Step.{Reply, step, Calls, answers, final}
use Rattle.script_rules.specs.Blocks.{printed, Scriptable, blocks, after_blocks}
use Rattle.script_rules.specs.Replay.{Run, run, UNKNOWN, reads_too_much, room_for, asked_by, reply_text}
use Rattle.script_rules.specs.declared.replayed.Reason.TheVariants as reason

-- ---- the words of the claims

-- one run, and the next where it stopped
abbrev pub followed : Run → Run → Run
followed a b = record { calls = a.calls ++ b.calls; text = a.text ++ b.text; next = b.next; reason = b.reason; store = b.store }

-- the texts of some answers, one after the other
unfoldable pub texts : List Reply → List ℕ
texts [] = []
texts (r ∷ rs) = reply_text r ++ texts rs

-- the calls that some blocks ask for
unfoldable pub asked : List Written → List Call
asked [] = []
asked (w ∷ ws) = asked_by w ∷ asked ws

abbrev pub Ended : Run → Type 0
Ended r = r.reason ≡ reason.End

-- S is n whole blocks, or fewer, and nothing more
abbrev pub Unbroken : ℕ → List ℕ → Type 0
Unbroken n S = after_blocks n S ≡ []

-- the first run goes to the end of A. The second is of B, on the store and with the room that the first leaves, from where it stopped
abbrev pub resumed : (n m : ℕ) (K : Fixed) (A B : List ℕ) (at room : ℕ) → Store → Run
resumed n m K A B at room s = let a = run n K A at room s in run m K B a.next (room - length a.text) a.store

-- "Given room and allowance": so many calls and bytes are enough for that run
abbrev pub Enough : (allowance room : ℕ) → Run → Type 0
Enough allowance room r = (length r.calls ≤ allowance) × (length r.text ≤ room)

-- two runs, one after the other, come to what a whole one comes to
pub record Same (whole a b : Run) : Type 0 where
  pub first_ends : Ended a
  pub second-ends : Ended b
  pub calls : a.calls ++ b.calls ≡ whole.calls
  pub text : a.text ++ b.text ≡ whole.text
  pub next : b.next ≡ whole.next
  pub store : b.store ≡ whole.store

-- calls that can all be scripted
unfoldable pub AllScriptable : List Written → Type 0
AllScriptable [] = Unit {0}
AllScriptable (w ∷ ws) = Scriptable w × AllScriptable ws

-- the call that a block asks for, of whatever numbers and bytes; a read of too much is an unknown call
abbrev pub whole : Written → Call
whole w = record {
  process = w.process;
  call = cond (reads_too_much w) UNKNOWN w.call;
  fd = w.fd;
  number = w.number;
  path = w.path;
  «data» = w.«data»;
  buffer = zeros (room_for w);
}

-- ---- the claims

pub record Claims : Type 0 where
  -- 1. "an unbroken script cut between blocks and resumed gives the same output and store": if a run of A gets to its end, a run of A and B is that run
  -- and then one of B. The allowance of the whole is what A took and what B is allowed.
  pub cut : (n m : ℕ) (K : Fixed) (A B : List ℕ) (at room : ℕ) (s : Store) → Ended (run n K A at room s) →
      run (length (run n K A at room s).calls + m) K (A ++ B) at room s ≡ followed (run n K A at room s) (resumed n m K A B at room s)
  pub ended-next : (n : ℕ) (K : Fixed) (A : List ℕ) (at room : ℕ) (s : Store) → Ended (run n K A at room s) → (run n K A at room s).next ≡ at + length A
  -- In the paper's words: the whole script is unbroken, its run gets to its end; it is cut after k of its blocks. Given room and allowance for the whole,
  -- each part gets to its end, and the two write the same and leave the same store.
  pub cut-anywhere : (k n p q : ℕ) (K : Fixed) (A B : List ℕ) (at room first second : ℕ) (s : Store) →
      let whole = run n K (A ++ B) at room s in let a = run p K A at first s in
      Unbroken k A → Ended whole → Enough p first whole → Enough q second whole → Same whole a (run q K B a.next second a.store)
  -- The allowance spent and given again: n and m calls allowed at once are n and then m.
  pub allowed-again : (n m : ℕ) (K : Fixed) (S : List ℕ) (at room : ℕ) (s : Store) → (run n K S at room s).reason ≡ reason.Allowance →
      run (n + m) K S at room s ≡ followed (run n K S at room s) (resumed n m K S (drop ((run n K S at room s).next - at) S) at room s)
  -- The room spent and given again, as a host does that empties the output between runs: with more room the run is the same so far, and goes on from there.
  pub room-again : (n : ℕ) (K : Fixed) (S : List ℕ) (at room more : ℕ) (s : Store) → let r = run n K S at room s in
      run n K S at (room + more) s ≡ followed r (run (n - length r.calls) K (drop (r.next - at) S) r.next (room + more - length r.text) r.store)
  -- 2. "Its count is that of the calls in the rules' own run": the calls taken are those of the first blocks; their answers are what is written, and the
  -- store is what the rules' own run of them leaves. No more calls than allowed, no more bytes than there is room for.
  pub run-calls : (n : ℕ) (K : Fixed) (S : List ℕ) (at room : ℕ) (s : Store) → let r = run n K S at room s in r.calls ≡ asked (blocks (length r.calls) S)
  pub run-next : (n : ℕ) (K : Fixed) (S : List ℕ) (at room : ℕ) (s : Store) → let r = run n K S at room s in r.next + length (after_blocks (length r.calls) S) ≡ at + length S
  pub run-text : (n : ℕ) (K : Fixed) (S : List ℕ) (at room : ℕ) (s : Store) → let r = run n K S at room s in r.text ≡ texts (answers K s (map Calls r.calls))
  pub run_store : (n : ℕ) (K : Fixed) (S : List ℕ) (at room : ℕ) (s : Store) → let r = run n K S at room s in r.store ≡ final K s (map Calls r.calls)
  pub run-allowed : (n : ℕ) (K : Fixed) (S : List ℕ) (at room : ℕ) (s : Store) → length (run n K S at room s).calls ≤ n
  pub run_fits : (n : ℕ) (K : Fixed) (S : List ℕ) (at room : ℕ) (s : Store) → length (run n K S at room s).text ≤ room
  -- Given room and allowance, the run of an unbroken script gets to its end, and takes the calls of all its blocks.
  pub whole_run : (n k : ℕ) (K : Fixed) (S : List ℕ) (at room : ℕ) (s : Store) → Unbroken k S → k ≤ n → length (texts (answers K s (map Calls (asked (blocks k S))))) ≤ room →
      let r = run n K S at room s in Ended r × (r.calls ≡ asked (blocks k S))
  -- 3. What is printed from calls is read back: all of them, each in its normal form, and nothing is left or broken.
  pub printed-back : (n : ℕ) (ws : List Written) → AllScriptable ws → length ws ≤ n → blocks n (printed ws) ≡ map normal ws
  pub printed-whole : (n : ℕ) (ws : List Written) → AllScriptable ws → length ws ≤ n → Unbroken n (printed ws)
  -- Nothing else is read: an unbroken script is what is printed from its calls, so that no two scripts are read as the same calls.
  pub printed-only : (n : ℕ) (S : List ℕ) → Unbroken n S → printed (blocks n S) ≡ S
  -- 4. The caps of `asked_by`, 255 for a number and 513 bytes, lose nothing: the call as it is written has the same answer and leaves the same store.
  pub caps-unseen : (K : Fixed) (s : Store) (w : Written) → step K s (asked_by w) ≡ step K s (whole w)
