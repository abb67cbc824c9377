-- How runs go on from sets of letters: one letter more, and none.
use mathlib.Core.Path.{◌≡◌, refl, sym, ap, ap₂, ◌∙◌}
use mathlib.Core.List.{List, [], ◌∷◌}
use Prim.Native.Nat.{ℕ, zero, suc, pred, ◌<◌}
use native.Mathlib.Omega.{arith}
use lib.ListN.{length}
use lib.Dec.{eqb}
use borrow.Author.Tests.{ne_eqb}
use Rattle.mealy.specs.Machine.{Machine, outs, Letters}
use Rattle.mealy.specs.Setting.{Setting}
use Rattle.mealy.specs.Answer as mealy
use Rattle.mealy.proofs.RunParts.{length_outs}
use Rattle.filling.specs.Runs.{Sets, Contributes, SetAfter, present_letter, From}

module _ (M : Machine) (Q : Sets) where
  -- one letter: what it is after the letter i, and what it was before it
  gives_to :
      (p s i y : ℕ) (xs : List ℕ) → Q s y →
      (z : ℕ) × Contributes Q (eqb p 1) s i z × (present_letter p y (i ∷ xs) ≡ present_letter (pred p) z xs)
  gives_to zero s i y xs q = (y, q, refl)
  gives_to (suc zero) s i y xs q = (i, (refl, (y, q)), refl)
  gives_to (suc (suc p)) s i y xs q =
      (y, rw (ne_eqb (suc (suc p)) 1 (λ (e : suc (suc p) ≡ 1). omega arith)) q, refl)

  gives_from :
      (p s i z : ℕ) (xs : List ℕ) → Contributes Q (eqb p 1) s i z →
      (y : ℕ) × Q s y × (present_letter (pred p) z xs ≡ present_letter p y (i ∷ xs))
  gives_from zero s i z xs g = (z, g, refl)
  gives_from (suc zero) s i z xs g = (g.1.0, g.1.1, g.0)
  gives_from (suc (suc p)) s i z xs g =
      (z, rw (ne_eqb (suc (suc p)) 1 (λ (e : suc (suc p) ≡ 1). omega arith)) at g, refl)

  -- every state that has a letter is a state of the machine
  abbrev pub WithinStates : Type 0
  WithinStates = (s x : ℕ) → Q s x → s < M.states

  module _ (o : ℕ) (w : List ℕ) (p x : ℕ) where
    abbrev Q' : Sets
    Q' = SetAfter M Q o (eqb p 1)

    pub from_after : From M Q' w (pred p) x → From M Q (o ∷ w) p x
    from_after f =
        let a = f.within in
        let g = gives_from p a.s a.i f.y f.xs a.contributes in
        record {
          s = a.s;
          y = g.0;
          xs = a.i ∷ f.xs;
          within = g.1;
          letters = (a.letter, f.letters);
          outputs = ap₂ ◌∷◌ a.output (ap (λ t. outs M t f.xs) a.to ∙ f.outputs);
          letter = f.letter ∙ g.2;
        }

    pub after_from : WithinStates → From M Q (o ∷ w) p x → From M Q' w (pred p) x
    after_from h f = go f.xs f.letters f.outputs f.letter
      where
        go :
            (xs : List ℕ) → Letters M.inputs xs → outs M f.s xs ≡ o ∷ w → x ≡ present_letter p f.y xs →
            From M Q' w (pred p) x
        go [] l e r = absurd (let z : ◌≡◌ {A = ℕ} 0 1 = cc in omega arith)
        go (i ∷ xs) l e r =
            let g = gives_to p f.s i f.y xs f.within in
            record {
              s = M.next f.s i;
              y = g.0;
              xs = xs;
              within = record {
                s = f.s;
                i = i;
                state = h f.s f.y f.within;
                letter = l.0;
                output = cc;
                to = refl;
                contributes = g.1;
              };
              letters = l.1;
              outputs = cc;
              letter = r ∙ g.2;
            }

  -- no letter is left
  pub from_all : (x : ℕ) → (s : ℕ) × Q s x → From M Q [] 0 x
  from_all x q = record { s = q.0; y = x; xs = []; within = q.1; letters = tt; outputs = refl; letter = refl }

  pub all_from : (x : ℕ) → From M Q [] 0 x → (s : ℕ) × Q s x
  all_from x f = (f.s, rw f.letter f.within)

-- the same runs from the same sets
pub from_map :
    {M : Machine} {Q R : Sets} {w : List ℕ} {p x : ℕ} → ((s y : ℕ) → Q s y → R s y) → From M Q w p x → From M R w p x
from_map h f =
    record {
      s = f.s;
      y = f.y;
      xs = f.xs;
      within = h f.s f.y f.within;
      letters = f.letters;
      outputs = f.outputs;
      letter = f.letter;
    }

-- before the first letter a run that may start in s has the letter 0
abbrev pub starting_sets : Setting → Sets
starting_sets S s y = S.Start s × (y ≡ 0)

-- the letters that fit
module _ (S : Setting) (w : List ℕ) (b x : ℕ) where
  pub from_fits : mealy.Fits S w b x → From S.M (starting_sets S) w (suc b) x
  from_fits f =
      record {
        s = f.s;
        y = 0;
        xs = f.xs;
        within = (f.start, refl);
        letters = f.letters;
        outputs = f.outputs;
        letter = sym f.letter;
      }

  pub fits_from : b < length w → From S.M (starting_sets S) w (suc b) x → mealy.Fits S w b x
  fits_from l f =
      record {
        s = f.s;
        xs = f.xs;
        start = f.within.0;
        letters = f.letters;
        outputs = f.outputs;
        inside = omega (arith, length_outs S.M f.s f.xs, ap length f.outputs);
        letter = sym f.letter;
      }
