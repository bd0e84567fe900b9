-- What tasks ask for rises with the stretch, and takes at least their share of it.
use Rattle.std.proofs.Common.{◌≡◌, ℕ, suc, ◌+◌, ◌-◌, ◌*◌, ◌/◌, ◌<◌, ◌≤◌, List, [], ◌∷◌, length, get_or, take, sum_by, ap, ◌∙◌, inl, inr, le_refl, le_trans, mul-le-mul, div-le_self, mul-le-mul_right, mul_assoc, mul_comm, add-mul, mul-le-mul_left, zero-mul, mul-add, div-mul-le_self, arith}
use native.Mathlib.Nat.{mul-sub}
use Rattle.std.proofs.lemmas.List.Elements.{All-from_get_or}
use Rattle.std.proofs.lemmas.List.Sums.{sum_by-cons, sum_by-le}
use Rattle.std.proofs.lemmas.List.{take_all}
use Rattle.std.proofs.lemmas.Bool.{cases_lt}
use Rattle.admission.specs.declared.task.Task.{Task}
use Rattle.admission.specs.declared.task.Share.{Share}
use Rattle.admission.specs.declared.task.Share.TheVariants.{Words, Objects}
use Rattle.admission.specs.Demand.{up, asked, demand, load, part_of, units_of, DoneIn, Least, Few, Sized, no_task}
use Rattle.admission.proofs.Rounding.{up_covers, up_rises, up_least, up_small}

-- a sum over tasks, of which each term is small
pub sum_small : (f : Task → ℕ) (m : ℕ) (ts : List Task) → ((t : Task) → Sized t → f t ≤ m) → Few ts → sum_by f ts ≤ 16 * m
sum_small f m ts small few =
    le_trans (sum_by-le f m ts (All-from_get_or (λ t. f t ≤ m) ts no_task (λ k h. small (get_or ts k no_task) (few.1 k h)))) (mul-le-mul_right m few.0)

abbrev pub EachSized : List Task → Type 0
EachSized ts = (k : ℕ) → k < length ts → Sized (get_or ts k no_task)

pub demand_rises : (part : Task → ℕ) (a b : ℕ) → a ≤ b → (ts : List Task) → EachSized ts → demand part a ts ≤ demand part b ts
demand_rises part a b h [] l = le_refl 0
demand_rises part a b h (t ∷ ts) l =
    let one : asked part a t ≤ asked part b t = mul-le-mul_right (part t) (up_rises a b t.period (l 0 (omega arith)).some h) in
    let more : demand part a ts ≤ demand part b ts = demand_rises part a b h ts (λ k i. l (suc k) (omega arith)) in
    let p = sum_by-cons (asked part a) t ts in
    let q = sum_by-cons (asked part b) t ts in
    omega arith

-- one part in 2 ^ 40 of a tick is the unit in which a task's share of the time is reckoned, rounded down
abbrev pub parts : ℕ
parts = 1099511627776

abbrev pub taken_by : Task → ℕ
taken_by t = t.units * parts / t.period

one_share : (k : ℕ) (t : Task) → 1 ≤ t.period → k * taken_by t ≤ asked units_of k t * parts
one_share k t h =
    let u = up k t.period in
    let w = taken_by t in
    let a : w * t.period ≤ t.units * parts = div-mul-le_self (t.units * parts) t.period in
    let b : k * w ≤ u * t.period * w = mul-le-mul_right w (up_covers k t.period h) in
    let c : u * t.period * w ≡ u * (t.period * w) = mul_assoc u t.period w in
    let d : t.period * w ≡ w * t.period = mul_comm t.period w in
    let e : u * (w * t.period) ≤ u * (t.units * parts) = mul-le-mul_left u a in
    let f : u * (t.period * w) ≡ u * (w * t.period) = ap (λ n. u * n) d in
    let g : u * t.units * parts ≡ u * (t.units * parts) = mul_assoc u t.units parts in
    omega arith

-- the tasks take at least their shares of any stretch
pub all_shares : (k : ℕ) (ts : List Task) → EachSized ts → k * sum_by taken_by ts ≤ load k ts * parts
all_shares k [] l = let e : k * 0 ≡ 0 = omega arith in omega arith
all_shares k (t ∷ ts) l =
    let one = one_share k t (l 0 (omega arith)).some in
    let more = all_shares k ts (λ j i. l (suc j) (omega arith)) in
    let p = sum_by-cons taken_by t ts in
    let q = sum_by-cons (asked units_of k) t ts in
    let m : k * (taken_by t + sum_by taken_by ts) ≡ k * taken_by t + k * sum_by taken_by ts = mul-add k (taken_by t) (sum_by taken_by ts) in
    let n : k * sum_by taken_by (t ∷ ts) ≡ k * (taken_by t + sum_by taken_by ts) = ap (λ n. k * n) p in
    let r : (asked units_of k t + load k ts) * parts ≡ asked units_of k t * parts + load k ts * parts = add-mul (asked units_of k t) (load k ts) parts in
    let s : load k (t ∷ ts) * parts ≡ (asked units_of k t + load k ts) * parts = ap (λ n. n * parts) q in
    omega arith

-- so a stretch in which the work is done leaves room for it
own_share : (own k : ℕ) (ts : List Task) → EachSized ts → DoneIn own ts k → own * parts + k * sum_by taken_by ts ≤ k * parts
own_share own k ts l h =
    let a = all_shares k ts l in
    let b : (own + load k ts) * parts ≤ k * parts = mul-le-mul_right parts h in
    let c : (own + load k ts) * parts ≡ own * parts + load k ts * parts = add-mul own (load k ts) parts in
    omega arith

pub no_room : (own k taken : ℕ) (ts : List Task) → EachSized ts → taken ≡ sum_by taken_by ts → parts ≤ taken → 1 ≤ own → DoneIn own ts k → ⊥
no_room own k taken ts l e full some h =
    let a = own_share own k ts l h in
    let b : k * parts ≤ k * taken = mul-le-mul_left k full in
    let c : k * taken ≡ k * sum_by taken_by ts = ap (λ n. k * n) e in
    omega arith

pub first_stretch : (own k taken : ℕ) (ts : List Task) → EachSized ts → taken ≡ sum_by taken_by ts → taken < parts → DoneIn own ts k → up (own * parts) (parts - taken) ≤ k
first_stretch own k taken ts l e some h =
    let a = own_share own k ts l h in
    let c : k * taken ≡ k * sum_by taken_by ts = ap (λ n. k * n) e in
    let d : k * (parts - taken) ≡ k * parts - k * taken = mul-sub k parts taken in
    up_least (own * parts) (parts - taken) k (omega arith) (omega arith)

-- The walk from stretch to stretch.

-- none below r will do
abbrev pub NoneBelow : ℕ → List Task → ℕ → Type 0
NoneBelow own ts r = (k : ℕ) → 1 ≤ k → k < r → DoneIn own ts k → ⊥

pub none_more : (own r d : ℕ) (ts : List Task) → EachSized ts → d ≡ own + load r ts → NoneBelow own ts r → NoneBelow own ts d
none_more own r d ts l e n k one lt bad =
    elim (cases_lt k r) [
      | inl h ↦ n k one h bad
      | inr h ↦ (let m = demand_rises units_of r k h ts l in omega arith)
    ]

pub all_asked : (own r i d : ℕ) (ts : List Task) → d ≡ own + sum_by (asked units_of r) (take i ts) → length ts ≤ i → d ≡ own + load r ts
all_asked own r i d ts e h = e ∙ ap (λ l. own + sum_by (asked units_of r) l) (take_all i ts h)

pub least_found : (own high r d : ℕ) (ts : List Task) → 1 ≤ r → r ≤ high → d ≡ own + load r ts → d ≤ r → NoneBelow own ts r → Least (DoneIn own ts) high r
least_found own high r d ts one to e h n =
    record {
      from = one;
      to = to;
      holds = omega arith;
      least = λ k o m. elim (cases_lt k r) [ inl lt ↦ absurd (n k o lt m) | inr le ↦ le ];
    }

pub stretch_from : (own left : ℕ) → 1 ≤ own → 1 ≤ left → 1 ≤ up (own * parts) left
stretch_from own left h l =
    elim (cases_lt 0 (up (own * parts) left)) [
      | inl p ↦ p
      | inr z ↦
          (let e : up (own * parts) left ≡ 0 = omega arith in
          let a = up_covers (own * parts) left l in
          let b : up (own * parts) left * left ≡ 0 * left = ap (λ n. n * left) e in
          let d : 0 * left ≡ 0 = zero-mul left in
          omega arith)
    ]

-- what one task gives birth to is small
pub births_small : (share : Share) (n : ℕ) (t : Task) → Sized t → n ≤ 2000000 → asked (part_of share) n t ≤ 16384000000
births_small Words n t s h = mul-le-mul (le_trans (up_small n t.period s.some) h) s.words
births_small Objects n t s h =
    let a : asked (part_of Objects) n t ≤ 2000000 * 256 = mul-le-mul (le_trans (up_small n t.period s.some) h) s.objects in
    omega arith

-- what lives of one task is small
pub lives_small : (share : Share) (t : Task) → Sized t → t.life * part_of share t ≤ 16384000000
lives_small Words t s = mul-le-mul s.life s.words
lives_small Objects t s =
    let a : t.life * t.objects ≤ 2000000 * 256 = mul-le-mul s.life s.objects in
    omega arith

pub taken_small : (t : Task) → Sized t → taken_by t ≤ 1099511627776000000
taken_small t s =
    let a : taken_by t ≤ t.units * parts = div-le_self (t.units * parts) t.period in
    let b : t.units * parts ≤ 1000000 * parts = mul-le-mul_right parts s.units in
    omega arith
