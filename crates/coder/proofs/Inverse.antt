-- A file is version, count field, counts and entries put together: reading gives the counts and entries back, and these give the file. It
-- is a list of bytes.
use mathlib.Core.Path.{◌≡◌, refl, ◌∙◌}
use mathlib.Core.List.{List, [], ◌∷◌}
use Prim.Native.Nat.{ℕ, ◌*◌}
use native.Mathlib.Omega.{arith}
use lib.Seq.{take_all}
use Rattle.mealy.specs.Machine.{Letters}
use Rattle.mealy.proofs.Letters.{letters_by_two}
use Rattle.coder.specs.BigEndian.{big_endian}
use Rattle.coder.specs.File.{states_of, inputs_of, outputs_of, entries_of, file_of, entries_refusal, file_refusal}
use Rattle.coder.proofs.BigEndian.{bytes_back}
use Rattle.coder.specs.Accepted.{IsCoder}
use Rattle.coder.proofs.Accepted.{Accepted, accepted, by_rest, entries_accepted, entries_high}

-- what is read of an accepted file gives the file
file_back : (f : List ℕ) → Letters 256 f → Accepted f → file_of (states_of f) (inputs_of f) (outputs_of f) (entries_of f) ≡ f
file_back [] h a = absurd (omega (arith, a.size))
file_back (v ∷ []) h a = absurd (omega (arith, a.size))
file_back (v ∷ x ∷ []) h a = absurd (omega (arith, a.size))
file_back (v ∷ x ∷ y ∷ []) h a = absurd (omega (arith, a.size))
file_back (v ∷ x ∷ y ∷ n ∷ []) h a = absurd (omega (arith, a.size))
file_back (v ∷ x ∷ y ∷ n ∷ i ∷ []) h a = absurd (omega (arith, a.size))
file_back (v ∷ x ∷ y ∷ n ∷ i ∷ o ∷ entries) h a =
    rw (← a.count, bytes_back (x ∷ y ∷ []) (h.1.0, (h.1.1.0, tt)), a.version)

pub read_written :
    (f : List ℕ) → Letters 256 f → file_refusal f ≡ 0 → file_of (states_of f) (inputs_of f) (outputs_of f) (entries_of f) ≡ f
read_written f h e = file_back f h (accepted f e)

-- the file of counts and entries that refusals 4 to 6 and 15 pass is accepted, and gives them back
pub record ReadBack (n i o : ℕ) (entries : List ℕ) : Type 0 where
  pub none : file_refusal (file_of n i o entries) ≡ 0
  pub states : states_of (file_of n i o entries) ≡ n
  pub inputs : inputs_of (file_of n i o entries) ≡ i
  pub outputs : outputs_of (file_of n i o entries) ≡ o
  pub bytes : entries_of (file_of n i o entries) ≡ entries

pub written_read : (n i o : ℕ) (entries : List ℕ) → entries_refusal n i o entries ≡ 0 → ReadBack n i o entries
unfolding big_endian
written_read n i o entries e =
    let a = entries_accepted n i o entries e in
    record {
      none = by_rest (file_of n i o entries) (omega arith) refl (omega (arith, a.size, entries_high n i o a.limits)) ∙ e;
      states = refl;
      inputs = refl;
      outputs = refl;
      bytes = refl;
    }

entries_bytes : (n i o : ℕ) (entries : List ℕ) → IsCoder n i o entries → Letters 256 entries
entries_bytes n i o entries a =
    let h = letters_by_two 256 (n * i) entries (omega (arith, a.size))
    (λ j l. omega (arith, a.next_state j l, a.limits.states_high)) (λ j l. omega (arith, a.output_letter j l, a.limits.outputs_high)) in
    rw (take_all (2 * (n * i)) entries (omega (arith, a.size))) at h

pub file_bytes : (n i o : ℕ) (entries : List ℕ) → entries_refusal n i o entries ≡ 0 → Letters 256 (file_of n i o entries)
unfolding big_endian
file_bytes n i o entries e =
    let a = entries_accepted n i o entries e in (
      omega arith,
      (
        omega arith,
        (
          omega arith,
          (
            omega (arith, a.limits.states_high),
            (omega (arith, a.limits.inputs_high), (omega (arith, a.limits.outputs_high), entries_bytes n i o entries a)),
          ),
        ),
      ),
    )
