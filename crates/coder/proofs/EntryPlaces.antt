-- Where the entries of n states and m input letters stand: that of state s and letter i is entry m s + i, and each of the n m is one of these.
use mathlib.Core.Path.{◌≡◌}
use Prim.Native.Nat.{ℕ, zero, suc, ◌+◌, ◌*◌, ◌/◌, ◌%◌, ◌<◌}
use native.Mathlib.Nat.{mul-le-mul_left, mul-suc, mul_comm, mod-lt, div-add-mod, div-lt_iff_lt-mul, mul-zero}
use native.Mathlib.Omega.{arith}

pub place : {n m s i : ℕ} → s < n → i < m → m * s + i < n * m
place {n} {m} {s} {i} p q = omega (arith, mul-le-mul_left m p, mul-suc m s, mul_comm n m)

-- the bytes of an entry stand among the entries
pub entry_place :
    {n m k offset s i : ℕ} → k ≡ 2 * (n * m) → offset < 2 → s < n → i < m → 2 * (m * s + i) + offset < k
entry_place e l p q = omega (arith, place p q)

-- the state and the letter of entry j
pub record Placed (n m j : ℕ) : Type 0 where
  pub state : j / m < n
  pub letter : j % m < m
  pub is : m * (j / m) + j % m ≡ j

pub placed : (n m j : ℕ) → j < n * m → Placed n m j
placed n zero j l = absurd (omega (arith, mul-zero n))
placed n (suc m) j l = record {
  state = (div-lt_iff_lt-mul {k = suc m} {x = j} {y = n} (omega arith)).1 l;
  letter = mod-lt j (omega arith);
  is = div-add-mod j (suc m);
}
