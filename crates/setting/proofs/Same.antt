-- From the words of a coder's setting to the setting of its file.
use mathlib.Core.Path.{◌≡◌, refl, ap, ◌∙◌, subst}
use mathlib.Core.Logic.{◌↔◌, ◌≢◌}
use mathlib.Core.List.{List}
use Prim.Native.Nat.{ℕ, ◌<◌}
use native.Mathlib.Omega.{arith}
use lib.ListN.{get_or}
use Rattle.mealy.specs.Machine.{Machine}
use Rattle.mealy.specs.Word.{Has, Holds}
use Rattle.mealy.specs.Setting.{Same, Closed, Bounded, after_letters_with, worded}
use Rattle.mealy.proofs.Words.{holds_empty}
use Rattle.mealy.proofs.Members.{holds_member}
use Rattle.mealy.proofs.SameSettings.{same_sym, same_starts}
use Rattle.mealy.proofs.StartStates.{after_closed, start_some, after_bounded}
use Rattle.coder.specs.File.{machine_of}
use Rattle.coder.specs.Table.{coder_of, machine_of_coder, Sound}
use Rattle.coder.specs.declared.inner.tables.Coder.{Coder}
use Rattle.coder.proofs.Accepted.{Accepted}
use Rattle.coder.proofs.Tables.{machine_same, sound_coder}
use Rattle.setting.specs.Words.{setting_of_coder, from_word, StartWord, started_in, StartIn, WordsOf}

-- the start states of a coder's tables are states of it
coder_bounded : (c : Coder) → Sound c → (p : ℕ) → Bounded (setting_of_coder c p)
coder_bounded c sound = after_bounded (machine_of_coder c) (λ s i p l. sound.next_state s i) sound.states_low

-- the word of the start states says which they are
module _ (c : Coder) (p : ℕ) {starts : ℕ} (h : Holds (setting_of_coder c p).Start starts) where
  pub same_word : Same (from_word c starts) (setting_of_coder c p)
  same_word = same_sym (same_starts (machine_of_coder c) (λ i j. i ≢ j) (after_closed (machine_of_coder c) p) h.has (holds_member h))

  pub start_word : Sound c → StartWord c starts
  start_word sound =
      let some = start_some (machine_of_coder c) sound.inputs_low p in
      record {
        bound = h.bound;
        low = λ s q. coder_bounded c sound p s (holds_member h s q);
        some = λ e. holds_empty h e some.0 some.1;
      }

-- the setting whose runs start in the states of the word is that of the coder, whichever letters conflict; D says the same of the coder's
-- letters as C
pub started_same :
    (c : Coder) → Sound c → (p : ℕ) {starts : ℕ} → Holds (setting_of_coder c p).Start starts → (D C : ℕ → ℕ → Type 0) →
    ((i j : ℕ) → i < c.inputs → j < c.inputs → D i j ↔ C i j) → Same (started_in c starts D) (after_letters_with (machine_of_coder c) p C)
started_same c sound p {starts} h D C same =
    let S = after_letters_with (machine_of_coder c) p C in
    let start : (s : ℕ) → StartIn c.states starts s → S.Start s = λ s q. holds_member h s q.1 in
    let start' : (s : ℕ) → S.Start s → StartIn c.states starts s = λ s q. (coder_bounded c sound p s q, h.has s q) in
    record {
      closed = λ s i q l. start' _ (after_closed (machine_of_coder c) p s i (start s q) l);
      inputs = refl;
      start = start;
      start' = start';
      next = λ s i q l. refl;
      out = λ s i q l. refl;
      conflict = λ i j l m. (same i j l m).0;
      conflict' = λ i j l m. (same i j l m).1;
    }

-- the setting of the words is that of the coder
words_same :
    {c : Coder} {p : ℕ} {C : ℕ → ℕ → Type 0} {starts : ℕ} {conflicts : List ℕ} → Sound c → WordsOf c p C starts conflicts →
    Same (worded (machine_of_coder c) starts conflicts) (after_letters_with (machine_of_coder c) p C)
words_same {c} {p} {C} {conflicts = conflicts} sound w =
    let h = sound.inputs_high in
    started_same c sound p w.starts_are (λ i j. Has (get_or conflicts i 0) j) C
    (λ i j l m. (
      w.conflicts_are.conflict' i j (omega arith) (omega arith),
      w.conflicts_are.conflict i j (omega arith) (omega arith),
    ))

-- the coder of an accepted file
module _ {c : Coder} {f : List ℕ} (e : c ≡ coder_of f) (a : Accepted f) where
  pub coder_sound : Sound c
  coder_sound = rw e (sound_coder f a)

  pub coder_machine : machine_of_coder c ≡ machine_of f
  coder_machine = ap machine_of_coder e ∙ machine_same f a

  module _ {p : ℕ} {C : ℕ → ℕ → Type 0} {starts : ℕ} {conflicts : List ℕ} (w : WordsOf c p C starts conflicts) where
    -- the setting of the words is that of the file: `setting_after f p` where different letters conflict
    pub same_setting : Same (worded (machine_of_coder c) starts conflicts) (after_letters_with (machine_of f) p C)
    same_setting =
        subst (λ (M : Machine). Same (worded (machine_of_coder c) starts conflicts) (after_letters_with M p C)) coder_machine
        (words_same coder_sound w)

    pub words_closed : Closed (worded (machine_of_coder c) starts conflicts)
    words_closed = same_setting.closed
