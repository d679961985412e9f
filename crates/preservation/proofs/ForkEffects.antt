-- Fork: the child gets its parent's descriptors one by one, then it is in use.
use mathlib.Core.Path.{◌≡◌, refl, sym, subst, ap, ◌∙◌, fun_ext}
use mathlib.Core.Bool.{cond, not}
use mathlib.Core.List.{[], ◌∷◌}
use Prim.Native.Nat.{ℕ, zero, suc, ◌+◌, ◌-◌, ◌≤◌, ◌<◌}
use native.Mathlib.Nat.{not-suc-le-zero}
use native.Mathlib.Omega.{arith}
use native.Mathlib.Decide.{dec_lt, ℕ_discrete}
use lib.Dec.{eqb}
use borrow.Author.Tests.{eq-eqb, ne_eqb}
use Rattle.std.specs.Prelude.{None}
use Rattle.rules.specs.Layout.{SLOTS, PROCESSES, DESCRIPTORS, OPEN_REFERENCES, PROCESS_USED}
use Rattle.rules.specs.Scan.{repeat}
use Rattle.rules.specs.Store.{Store, view, ofd_of, up, apply_all, change, desc_to, fd_of}
use Rattle.rules.specs.Store as rules
use Rattle.rules.specs.Checks.{held, ofd_held, sharing, share_of}
use Rattle.rules.specs.Effects.{share_changes, shared_all, fork_changes}
use Rattle.rules.specs.Effects as effects
use Rattle.rules.specs.declared.ids.Pid.{Pid}
use Rattle.rules.specs.declared.request.Subject.{Subject}
use Rattle.rules.specs.Decisions as decisions
use Rattle.rules.proofs.Scans.{repeat-step, repeat-done}
use Rattle.preservation.proofs.Tests.{split, upd, upd_other, upd_row}
use Rattle.preservation.proofs.Tables.{Tables, proc_row_to}
use Rattle.preservation.proofs.Sound.{All, Sound}
use Rattle.preservation.proofs.Counts.{upd_row-same, upd_row-other}
use Rattle.preservation.proofs.Words.{up_is, references-most}
use Rattle.preservation.proofs.OneWord.{Held}
use Rattle.preservation.proofs.OneWord as word
use Rattle.preservation.proofs.Open.{handed}
use Rattle.preservation.proofs.Processes.{proc_row, Ranged, spawn-sound, shared, shared-sound}
use Rattle.preservation.proofs.StoreChanges.{tables_of, Sized, Has, has-open_row, has-desc_to, has-proc_to, desc-past}
use Rattle.preservation.proofs.SoundStore.{SoundStore}
use Rattle.preservation.proofs.OpenEffects.{Leaves}
use Rattle.preservation.proofs.CloseEffects.{upd_row-id}

-- process q gets the descriptors of process p, and will be `who`
module _ (p q : Pid) (who : Subject) (hp : p.0 < PROCESSES) (hq : q.0 < PROCESSES) where
  -- the tables with the child in use
  abbrev pub spawned : Tables → Tables
  spawned m = proc_row_to q.0 (proc_row who) m

  -- the descriptors below i are shared: sound, once the child is in use
  pub record Sharing (s : Store) (i : ℕ) (t : Store) : Type 0 where
    pub sized : Sized t
    pub sound : Sound (spawned (tables_of t))
    pub rest : All DESCRIPTORS (λ j. i ≤ j → (tables_of t).desc q.0 j ≡ 0)
    pub files-same : (tables_of t).file ≡ (tables_of s).file
    pub bytes_same : (tables_of t).byte ≡ (tables_of s).byte
    pub proc-same : (tables_of t).proc ≡ (tables_of s).proc
    pub others : (r : ℕ) → (r ≡ q.0 → ⊥) → (tables_of t).desc r ≡ (tables_of s).desc r
    pub given : (p.0 ≡ q.0 → ⊥) → (j : ℕ) → j < i → (tables_of t).desc q.0 j ≡ (tables_of s).desc p.0 j

  module _ (s : Store) (i : ℕ) (t : Store) (hi : i < DESCRIPTORS) (c : Sharing s i t) where
    its : Has t (tables_of t)
    its = record { sized = c.sized; is = refl }

    -- the parent's descriptor i is empty
    share-none : (tables_of t).desc p.0 i ≡ 0 → Sharing s (i + 1) (apply_all (share_changes q (fd_of i) None) t)
    unfolding share_changes apply_all
    share-none z =
        let w = has-desc_to its q.0 i 0 hq hi in
        let e : tables_of (change (desc_to q.0 i 0) t) ≡ tables_of t
        = w.is ∙ ap (λ (d : ℕ → ℕ → ℕ). record { file = (tables_of t).file; byte = (tables_of t).byte; open_files = (tables_of t).open_files; proc = (tables_of t).proc; desc = d }) (upd_row-id (tables_of t).desc q.0 i 0 (c.rest i hi (omega arith))) in
        record {
          sized = w.sized;
          sound = rw e c.sound;
          rest = λ j hj m. rw e (c.rest j hj (omega arith));
          files-same = rw e c.files-same;
          bytes_same = rw e c.bytes_same;
          proc-same = rw e c.proc-same;
          others = λ r n. rw e (c.others r n);
          given = λ n j hj. rw e (so_far n j hj (ℕ_discrete j i));
        }
      where
        so_far : (p.0 ≡ q.0 → ⊥) → (j : ℕ) → j < i + 1 → Dec (j ≡ i) → (tables_of t).desc q.0 j ≡ (tables_of s).desc p.0 j
        so_far n j hj (yes y) = rw y (c.rest i hi (omega arith) ∙ sym z ∙ ap (λ (d : ℕ → ℕ). d i) (c.others p.0 n))
        so_far n j hj (no y) = c.given n j (omega arith)

    module _ (e : ℕ) (z : (tables_of t).desc p.0 i ≡ e + 1) where
      pub shared-held : Held (spawned (tables_of t)) e
      shared-held = word.held SLOTS (spawned (tables_of t)) c.sound p.0 i e hp hi z

      pub shared-up : up ((tables_of t).open_files e OPEN_REFERENCES) ≡ (tables_of t).open_files e OPEN_REFERENCES + 1
      shared-up = up_is ((tables_of t).open_files e OPEN_REFERENCES) (omega (arith, references-most SLOTS (spawned (tables_of t)) c.sound e shared-held.small))

      share-one : Sharing s (i + 1) (apply_all (share_changes q (fd_of i) (decisions.Held (ofd_of e) (up ((tables_of t).open_files e OPEN_REFERENCES)))) t)
      unfolding share_changes apply_all
      share-one = record {
        sized = w.sized;
        sound = subst (λ (m : Tables). Sound (spawned m)) (sym w.is) (unfold shared handed in
            (shared-sound SLOTS (spawned (tables_of t)) c.sound p.0 i q.0 i e hp hi hq hi (rw (eq-eqb q.0 q.0 refl) (λ y. omega arith)) z (c.rest i hi (omega arith))));
        rest = λ j hj m. rw w.is (unfold shared handed in (upd_row-other (tables_of t).desc q.0 i (e + 1) q.0 j (λ _ y. omega arith) ∙ c.rest j hj (omega arith)));
        files-same = ap (λ (m : Tables). m.file) w.is ∙ (unfold shared handed in c.files-same);
        bytes_same = ap (λ (m : Tables). m.byte) w.is ∙ (unfold shared handed in c.bytes_same);
        proc-same = ap (λ (m : Tables). m.proc) w.is ∙ (unfold shared handed in c.proc-same);
        others = λ r n. ap (λ (m : Tables). m.desc r) w.is ∙ (unfold shared handed in (upd_other (tables_of t).desc q.0 (upd ((tables_of t).desc q.0) i (e + 1)) r n ∙ c.others r n));
        given = λ n j hj. ap (λ (m : Tables). m.desc q.0 j) w.is ∙ (unfold shared handed in so_far n j hj (ℕ_discrete j i));
      }
        where
          so_far : (p.0 ≡ q.0 → ⊥) → (j : ℕ) → j < i + 1 → Dec (j ≡ i) → upd_row (tables_of t).desc q.0 i (e + 1) q.0 j ≡ (tables_of s).desc p.0 j
          so_far n j hj (yes y) = rw y (upd_row-same (tables_of t).desc q.0 i (e + 1) ∙ sym z ∙ ap (λ (d : ℕ → ℕ). d i) (c.others p.0 n))
          so_far n j hj (no y) = upd_row-other (tables_of t).desc q.0 i (e + 1) q.0 j (λ _ x. y x) ∙ c.given n j (omega arith)

          w : Has (change (rules.open_word e OPEN_REFERENCES (up ((tables_of t).open_files e OPEN_REFERENCES))) (change (desc_to q.0 i (up e)) t)) (shared q.0 i e (tables_of t))
          w = unfold shared handed in rw (up_is e (omega (arith, shared-held.small)), shared-up)
              (has-open_row (has-desc_to its q.0 i (e + 1) hq hi) e OPEN_REFERENCES ((tables_of t).open_files e OPEN_REFERENCES + 1) shared-held.small (omega arith))

    pub sharing-one : Sharing s (i + 1) (effects.shared p q i t)
    unfolding effects.shared share_of held
    sharing-one = by (ℕ_discrete ((view t).desc p.0 i) 0)
      where
        by : Dec ((view t).desc p.0 i ≡ 0) → Sharing s (i + 1) (apply_all (share_changes q (fd_of i) (cond (not (eqb ((view t).desc p.0 i) 0)) (sharing (view t).open_files (ofd_held (view t).desc p (fd_of i))) None)) t)
        by (yes e) = rw (eq-eqb ((view t).desc p.0 i) 0 e) (share-none (unfold tables_of in e))
        by (no n) = rw (ne_eqb ((view t).desc p.0 i) 0 n) (unfold tables_of in (share-one ((view t).desc p.0 i - 1) (omega (arith, n))))

  -- the first k of the descriptors from i on
  pub sharing-some : (s : Store) (k i n : ℕ) (t : Store) → i + k ≡ n → n ≤ DESCRIPTORS → Sharing s i t → Sharing s n (repeat (effects.shared p q) i n t)
  sharing-some s zero i n t e hn c =
      let w : i ≡ n = omega arith in
      subst (λ (v : Store). Sharing s n v) (repeat-done (effects.shared p q) i n t refl (omega arith)) (rw w at c)
  sharing-some s (suc k) i n t e hn c =
      subst (λ (v : Store). Sharing s n v) (repeat-step (effects.shared p q) i n t refl (omega arith))
      (sharing-some s k (i + 1) n (effects.shared p q i t) (omega arith) hn (sharing-one s i t (omega arith) c))

  pub sharing-start : (s : Store) → SoundStore s → (tables_of s).proc q.0 PROCESS_USED ≡ 0 → Ranged who → Sharing s 0 s
  sharing-start s h f r = record {
    sized = h.sized;
    sound = spawn-sound SLOTS (tables_of s) h.tables q.0 who hq r;
    rest = λ j hj _. (h.tables.procs q.0 hq).desc-zero f j hj;
    files-same = refl;
    bytes_same = refl;
    proc-same = refl;
    others = λ r _. refl;
    given = λ _ j hj. absurd (not-suc-le-zero hj);
  }

  -- the child is `who` and has its parent's descriptors; the others are as they were
  pub record Forks (s t : Store) : Type 0 where
    pub tables : Tables
    pub leaves : Leaves t tables
    pub files-same : tables.file ≡ (tables_of s).file
    pub bytes_same : tables.byte ≡ (tables_of s).byte
    pub proc-to : tables.proc ≡ upd (tables_of s).proc q.0 (proc_row who)
    pub desc-to : (p.0 ≡ q.0 → ⊥) → tables.desc ≡ upd (tables_of s).desc q.0 ((tables_of s).desc p.0)

  pub fork-leaves : (s : Store) → SoundStore s → (tables_of s).proc q.0 PROCESS_USED ≡ 0 → Ranged who → Forks s (apply_all (fork_changes q who) (shared_all p q s))
  unfolding fork_changes shared_all apply_all
  fork-leaves s h f r = record {
    tables = spawned (tables_of (repeat (effects.shared p q) 0 DESCRIPTORS s));
    leaves = record { has = has-proc_to (record { sized = c.sized; is = refl }) q.0 (1 ∷ who.user ∷ who.group ∷ who.label ∷ []) hq refl; sound = c.sound };
    files-same = c.files-same;
    bytes_same = c.bytes_same;
    proc-to = ap (λ (f : ℕ → ℕ → ℕ). upd f q.0 (proc_row who)) c.proc-same;
    desc-to = λ n. fun_ext (λ r. split r q.0 (λ e t. rw (t, e) (fun_ext (λ j. all-given n j (dec_lt j DESCRIPTORS)))) (λ m t. rw t (c.others r m)));
  }
    where
      c : Sharing s DESCRIPTORS (repeat (effects.shared p q) 0 DESCRIPTORS s)
      c = sharing-some s DESCRIPTORS 0 DESCRIPTORS s refl (omega arith) (sharing-start s h f r)

      all-given : (p.0 ≡ q.0 → ⊥) → (j : ℕ) → Dec (j < DESCRIPTORS) → (tables_of (repeat (effects.shared p q) 0 DESCRIPTORS s)).desc q.0 j ≡ (tables_of s).desc p.0 j
      all-given n j (yes l) = c.given n j l
      all-given n j (no l) = unfold tables_of in (desc-past (repeat (effects.shared p q) 0 DESCRIPTORS s).processes q.0 j (omega arith) ∙ sym (desc-past s.processes p.0 j (omega arith)))
