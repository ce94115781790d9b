-- The laws of `total`.
use Rattle.std.proofs.Common.{◌≡◌, ℕ, zero, suc, ◌+◌, ◌-◌, ◌*◌, ◌<◌, ◌≤◌, min, sym, refl, ap, ◌∙◌, inl, inr, mul-zero, add-one, arith}
use Rattle.std.proofs.lemmas.Bool.{cases_order, cases_lt}
use Rattle.model.specs.Total.{total}

pub total_ext : (n : ℕ) (f g : ℕ → ℕ) → ((i : ℕ) → i < n → f i ≡ g i) → total n f ≡ total n g
unfolding total
total_ext zero f g h = refl
total_ext (suc n) f g h =
    let e = total_ext n f g (λ i l. h i (omega arith)) in
    omega (arith, e, h n (omega arith))

pub total_le : (n : ℕ) (f g : ℕ → ℕ) → ((i : ℕ) → i < n → f i ≤ g i) → total n f ≤ total n g
unfolding total
total_le zero f g h = omega arith
total_le (suc n) f g h =
    let e = total_le n f g (λ i l. h i (omega arith)) in
    omega (arith, e, h n (omega arith))

pub total_add : (n : ℕ) (f g : ℕ → ℕ) → total n (λ i. f i + g i) ≡ total n f + total n g
unfolding total
total_add zero f g = refl
total_add (suc n) f g = omega (arith, total_add n f g)

pub total_scale : (n c : ℕ) (f : ℕ → ℕ) → total n (λ i. c * f i) ≡ c * total n f
unfolding total
total_scale zero c f = sym (mul-zero c)
total_scale (suc n) c f = omega (arith, total_scale n c f)

pub total_zero : (n : ℕ) → total n (λ i. 0) ≡ 0
unfolding total
total_zero zero = refl
total_zero (suc n) = omega (arith, total_zero n)

pub total_const : (n c : ℕ) → total n (λ i. c) ≡ c * n
unfolding total
total_const zero c = sym (mul-zero c)
total_const (suc n) c = omega (arith, total_const n c)

pub total_up : (f : ℕ → ℕ) (m n : ℕ) → m ≤ n → total m f ≤ total n f
unfolding total
total_up f m zero l = let e : m ≡ 0 = omega arith in rw e (omega arith)
total_up f m (suc n) l =
    elim (cases_lt n m) [ inl h ↦ let e : m ≡ suc n = omega arith in rw e (omega arith) | inr h ↦ omega (arith, total_up f m n h) ]

pub total_swap : (n m : ℕ) (f : ℕ → ℕ → ℕ) → total n (λ i. total m (f i)) ≡ total m (λ k. total n (λ i. f i k))
unfolding total
total_swap zero m f = sym (total_zero m)
total_swap (suc n) m f = ap (λ x. x + total m (f n)) (total_swap n m f) ∙ sym (total_add m (λ k. total n (λ i. f i k)) (f n))

-- 1 where the two are the same, else 0
abbrev pub is : ℕ → ℕ → ℕ
is i k = 1 - ((i - k) + (k - i))

-- 1 where the first is below the second, else 0
abbrev pub below : ℕ → ℕ → ℕ
below i n = min 1 (n - i)

-- 1 where a ≤ k < b, else 0
abbrev pub between : ℕ → ℕ → ℕ → ℕ
between a b k = 1 - ((a - k) + (suc k - b))

pub total_pick : (n i : ℕ) (f : ℕ → ℕ) → total n (λ k. f k * is i k) ≡ f i * below i n
unfolding total
total_pick zero i f = let e : below i 0 ≡ 0 = omega arith in rw e (sym (mul-zero (f i)))
total_pick (suc n) i f =
    let h = total_pick n i f in
    elim (cases_order i n) [
      | inl e ↦
          let e1 : is i n ≡ 1 = omega arith in
          let e2 : below i n ≡ 0 = omega arith in
          let e3 : below i (suc n) ≡ 1 = omega arith in
          let e4 : f i ≡ f n = ap f e in
          rw (e1, e3) (omega (arith, rw e2 at h))
      | inr (inl l) ↦
          let e1 : is i n ≡ 0 = omega arith in
          let e2 : below i n ≡ 1 = omega arith in
          let e3 : below i (suc n) ≡ 1 = omega arith in
          rw (e1, e3) (omega (arith, rw e2 at h))
      | inr (inr l) ↦
          let e1 : is i n ≡ 0 = omega arith in
          let e2 : below i n ≡ 0 = omega arith in
          let e3 : below i (suc n) ≡ 0 = omega arith in
          rw (e1, e3) (omega (arith, rw e2 at h))
    ]

pub total_is : (n i : ℕ) → total n (is i) ≡ below i n
unfolding total
total_is zero i = omega arith
total_is (suc n) i = omega (arith, total_is n i)

pub total_between : (n a b : ℕ) → total n (between a b) ≡ min b n - a
unfolding total
total_between zero a b = omega arith
total_between (suc n) a b = omega (arith, total_between n a b)

-- the last place below d at which f is not 0
pub last : (f : ℕ → ℕ) (d : ℕ) → 0 < total d f → (t : ℕ) × (t < d) × (0 < f t) × (total (suc t) f ≡ total d f)
unfolding total
last f zero h = absurd (omega arith)
last f (suc d) h =
    elim (cases_lt 0 (f d)) [
      | inl p ↦ (d, omega arith, p, refl)
      | inr z ↦ let (t, l, p, e) = last f d (omega arith) in (t, omega arith, p, omega arith)
    ]

pub total_at : (f : ℕ → ℕ) (n j : ℕ) → j < n → f j ≤ total n f
unfolding total
total_at f n j l = omega (arith, total_up f (suc j) n l)

-- what holds below n and at n holds below n + 1
pub below_suc : (P : ℕ → Type 0) (n : ℕ) → ((k : ℕ) → k < n → P k) → P n → (k : ℕ) → k < suc n → P k
below_suc P n h p k l = elim (cases_lt k n) [ inl b ↦ h k b | inr b ↦ let e : k ≡ n = omega arith in rw e p ]

-- the first taken from the front
pub total_front : (n : ℕ) (f : ℕ → ℕ) → total (suc n) f ≡ f 0 + total n (λ i. f (suc i))
unfolding total
total_front zero f = omega arith
total_front (suc n) f = omega (arith, total_front n f)

pub total_reverse : (n : ℕ) (f : ℕ → ℕ) → total n (λ i. f (n - suc i)) ≡ total n f
unfolding total
total_reverse zero f = refl
total_reverse (suc n) f =
    let front = total_front n (λ i. f (suc n - suc i)) in
    let first : f (suc n - suc 0) ≡ f n = ap f (omega arith) in
    let rest : total n (λ i. f (suc n - suc (suc i))) ≡ total n (λ i. f (n - suc i)) =
    total_ext n (λ i. f (suc n - suc (suc i))) (λ i. f (n - suc i)) (λ i l. ap f (omega arith)) in
    front ∙ omega (arith, total_reverse n f)

-- the start and the step of a loop
pub total_none : (f : ℕ → ℕ) → total 0 f ≡ 0
unfolding total
total_none f = refl

pub total_more : (f : ℕ → ℕ) (n : ℕ) → total (n + 1) f ≡ total n f + f n
unfolding total
total_more f n = rw add-one refl
