-- Taking the next release and putting the one after it: what is listed, and what waits.
use Rattle.std.proofs.Common.{◌≡◌, ℕ, zero, suc, ◌+◌, ◌-◌, ◌*◌, ◌<◌, ◌≤◌, true, false, eqb, ltb, ◌⊎◌, List, [], ◌∷◌, ◌++◌, length, get_or, Some, sym, refl, ap, ◌∙◌, subst, inl, inr, mul-le-mul_right, add-mul, one-mul, zero-mul, arith}
use Rattle.std.specs.List.{ContainsAt as Has, AllByRecursion}
use Rattle.std.proofs.ByRecursion.{All-weaker, All-push, all-has, All-get_or, has_append_left, has_push, has_shuffled}
use Rattle.std.proofs.lemmas.Bool.{cases_Bool, cases_eq, cases_lt, both_ways, cond-true, cond-false, eq-eqb, ne_eqb, lt-ltb, le-ltb}
use Rattle.queue.specs.declared.entries.Release.{Release}
use Rattle.queue.specs.declared.entries.Source.{Source}
use Rattle.queue.specs.Entries.{by, sooner, source_upto}
use Rattle.queue.specs.Orders.{inserted}
use Rattle.queue.specs.Lexical.{by_total, by_transitive, by_ties, source_total, source_transitive, source_antisymmetric, same_release}
use Rattle.queue.specs.Lists.{Lent, held, put_in, first, without}
use Rattle.queue.proofs.Arranged.{shuffled_inserted, put_held, put_room}
use Rattle.queue.proofs.Batches.{first_taken}
use Rattle.admission.proofs.Ranking.{all_inserted}
use Rattle.admission.specs.declared.figures.Figures.{Figures}
use Rattle.admission.specs.Sound.{task, Sound}
use Rattle.releases.specs.Releases.{nth, next, period_at, source_at, nobody, Before, Rising, FirstReleases, Firsts, Advanced, Listed}

-- The order of releases.

sooner_total : (x y : Release) → sooner x y ≡ false → sooner y x ≡ true
sooner_total x y = by_total x.tick y.tick _ _ (by_total x.rank y.rank _ _ (source_total x.source y.source))

sooner_transitive : (x y z : Release) → sooner x y ≡ true → sooner y z ≡ true → sooner x z ≡ true
sooner_transitive x y z = by_transitive x.tick y.tick z.tick _ _ _ (by_transitive x.rank y.rank z.rank _ _ _ (source_transitive x.source y.source z.source))

sooner_ties : (x y : Release) → sooner x y ≡ true → sooner y x ≡ true → x ≡ y
sooner_ties x y h k =
    let p = by_ties x.tick y.tick _ _ h k in
    let q = by_ties x.rank y.rank _ _ p.1 p.2 in
    same_release x y p.0 q.0 (source_antisymmetric x.source y.source q.1 q.2)

before_trans : (x y z : Release) → Before x y → Before y z → Before x z
before_trans x y z h k =
    elim (cases_Bool (sooner z x)) [
      | inl t ↦ absurd (both_ways (sooner z y) k (sooner_transitive z x y t (sooner_total y x h)))
      | inr f ↦ f
    ]

before_itself : (x : Release) → Before x x → ⊥
before_itself x h = both_ways (sooner x x) h (sooner_total x x h)

-- one comes no later, and another falls behind it
upto_before : (x y z : Release) → sooner x y ≡ true → Before y z → Before x z
upto_before x y z h k =
    elim (cases_Bool (sooner z x)) [
      | inl t ↦ absurd (both_ways (sooner z y) k (sooner_transitive z x y t h))
      | inr f ↦ f
    ]

rising_push : (xs : List Release) (x : Release) → Rising xs → AllByRecursion (λ z. Before z x) xs → Rising (xs ++ x ∷ [])
rising_push [] x r a = (tt, tt)
rising_push (y ∷ xs) x r a = (All-push (Before y) xs x r.0 a.0, rising_push xs x r.1 a.1)

pub rising_inserted : (x : Release) (ys : List Release) → Rising ys → AllByRecursion (λ y. x ≡ y → ⊥) ys → Rising (inserted sooner x ys)
rising_inserted x [] r d = (tt, tt)
rising_inserted x (y ∷ ys) r d =
    elim (cases_Bool (sooner y x)) [
      | inl t ↦
          (let b : Before y x = elim (cases_Bool (sooner x y)) [ inl u ↦ absurd (d.0 (sooner_ties x y u t)) | inr f ↦ f ] in
          rw t ((all_inserted sooner (Before y) x ys b r.0, rising_inserted x ys r.1 d.1)))
      | inr f ↦ rw f (((f, All-weaker (Before y) (Before x) (λ z h. before_trans x y z f h) ys r.0), r))
    ]

has_head : (x : Release) (ys : List Release) → Has (x ∷ ys) x
has_head x ys = (0, omega arith, λ d. refl)

has_tail : (x y : Release) (ys : List Release) → Has ys y → Has (x ∷ ys) y
has_tail x y ys h = (suc h.0, omega (arith, h.1), h.2)

has_split : (x y : Release) (ys : List Release) → Has (x ∷ ys) y → (x ≡ y) ⊎ Has ys y
has_split x y ys (zero, l, e) = inl (e x)
has_split x y ys (suc k, l, e) = inr (k, omega arith, e)

inserted_has : (x y : Release) (ys : List Release) → Has (x ∷ ys) y → Has (inserted sooner x ys) y
inserted_has x y ys h = has_shuffled (x ∷ ys) (inserted sooner x ys) y (shuffled_inserted sooner x ys) h

abbrev release : ℕ → ℕ → Source → Release
release t r s = record { tick = t; rank = r; source = s }

source_itself : (s : Source) → source_upto s s ≡ true
source_itself s = elim (cases_Bool (source_upto s s)) [ inl t ↦ t | inr g ↦ source_total s s g ]

module _ (f : Figures) (some : (i : ℕ) → i ≤ f.task_count → 1 ≤ period_at f i) where
  next_nth : (i m : ℕ) → next f (nth f i m) ≡ nth f i (m + 1)
  next_nth i m =
      let p = period_at f i in
      let a : (m + 1) * p ≡ m * p + 1 * p = add-mul m 1 p in
      let b : 1 * p ≡ p = one-mul p in
      let e : m * p + p ≡ (m + 1) * p = omega arith in
      ap (λ t. release t i (source_at f i)) e

  -- later releases of one source fall no sooner
  nth_rises : (i m n : ℕ) → m ≤ n → sooner (nth f i m) (nth f i n) ≡ true
  nth_rises i m n h =
      let p = period_at f i in
      let l : m * p ≤ n * p = mul-le-mul_right p h in
      let t : by i i (source_upto (source_at f i) (source_at f i)) ≡ true = cond-true (eqb i i) _ _ (eq-eqb i i refl) ∙ source_itself (source_at f i) in
      elim (cases_eq (m * p) (n * p)) [
        | inl e ↦ cond-true (eqb (m * p) (n * p)) _ _ (eq-eqb (m * p) (n * p) e) ∙ t
        | inr d ↦ cond-false (eqb (m * p) (n * p)) _ _ (ne_eqb (m * p) (n * p) d) ∙ lt-ltb (m * p) (n * p) (omega arith)
      ]

  -- y is the m-th release of a source whose earlier ones are listed
  abbrev Due : List Release → Release → Type 0
  Due listed y = (i : ℕ) × (m : ℕ) × (i ≤ f.task_count) × (y ≡ nth f i m) × ((j : ℕ) → j < m → Has listed (nth f i j))

  abbrev SomeRelease : Release → Type 0
  SomeRelease y = (i : ℕ) × (m : ℕ) × (i ≤ f.task_count) × (y ≡ nth f i m)

  pub record Good (listed waits : List Release) : Type 0 where
    pub order : Rising waits
    pub due : AllByRecursion (Due listed) waits
    pub has : (i : ℕ) → i ≤ f.task_count → (m : ℕ) × Has waits (nth f i m)
    pub below : AllByRecursion (λ x. AllByRecursion (Before x) waits) listed
    pub rises : Rising listed
    pub each : AllByRecursion SomeRelease listed

  due_more : (listed : List Release) (x y : Release) → Due listed y → Due (listed ++ x ∷ []) y
  due_more listed x y d = (d.0, d.1, d.2, d.3, λ j h. has_append_left listed (x ∷ []) (nth f d.0 j) (d.4 j h))

  -- the next release of a source falls later
  later : (x y : Release) (i m : ℕ) → i ≤ f.task_count → x ≡ nth f i m → y ≡ nth f i (m + 1) → Before x y
  later x y i m h e g =
      let p = period_at f i in
      let a : (m + 1) * p ≡ m * p + 1 * p = add-mul m 1 p in
      let b : 1 * p ≡ p = one-mul p in
      let s = some i h in
      let t : sooner (nth f i (m + 1)) (nth f i m) ≡ false =
      cond-false (eqb ((m + 1) * p) (m * p)) _ _ (ne_eqb ((m + 1) * p) (m * p) (λ q. omega arith)) ∙ le-ltb ((m + 1) * p) (m * p) (omega arith) in
      ap (λ u. sooner u x) g ∙ ap (sooner (nth f i (m + 1))) e ∙ t

  -- the counts of one source at one tick are the same
  count_same : (i k n q m : ℕ) → nth f i n ≡ nth f k q → i ≡ k → i ≤ f.task_count → m < n → m < q
  count_same i k n q m same r h less =
      let p = period_at f i in
      let e : period_at f k ≡ p = ap (period_at f) (sym r) in
      let t : n * p ≡ q * period_at f k = ap (λ u. u.tick) same in
      let u : q * period_at f k ≡ q * p = ap (λ v. q * v) e in
      let s = some i h in
      elim (cases_lt m q) [
        | inl y ↦ y
        | inr y ↦
            (let z : q * p ≤ m * p = mul-le-mul_right p y in
            let o : m + 1 ≤ n = omega arith in
            let c : (m + 1) * p ≤ n * p = mul-le-mul_right p o in
            let a : (m + 1) * p ≡ m * p + 1 * p = add-mul m 1 p in
            let b : 1 * p ≡ p = one-mul p in
            absurd (omega arith))
      ]

  -- so the release before one that waits is listed
  earlier : (listed : List Release) (i m k n : ℕ) → nth f i (m + 1) ≡ nth f k n → i ≡ k → i ≤ f.task_count → ((j : ℕ) → j < n → Has listed (nth f k j)) → Has listed (nth f i m)
  earlier listed i m k n same r h all = subst (λ v. Has listed (nth f v m)) (sym r) (all m (count_same i k (m + 1) n m same r h (omega arith)))

  -- it does not wait yet: the one before it would be listed
  apart_from : (listed waits : List Release) (x y : Release) (i m : ℕ) → i ≤ f.task_count → x ≡ nth f i m → y ≡ nth f i (m + 1) → AllByRecursion (λ z. Before z x) listed → AllByRecursion (Due listed) waits → AllByRecursion (λ z. y ≡ z → ⊥) waits
  apart_from listed [] x y i m h e g below due = tt
  apart_from listed (z ∷ waits) x y i m h e g below due = (
    λ q.
        let d = due.0 in
        let same : nth f i (m + 1) ≡ nth f d.0 d.1 = sym g ∙ q ∙ d.3 in
        let r : i ≡ d.0 = ap (λ u. u.rank) same in
        before_itself x (all-has (λ u. Before u x) listed x below (subst (Has listed) (sym e) (earlier listed i m d.0 d.1 same r h d.4))),
    apart_from listed waits x y i m h e g below due.1,
  )

  -- the first that waits is listed, and the one after it waits
  pub good_step : (listed waits : List Release) (x : Release) → Good listed (x ∷ waits) → Good (listed ++ x ∷ []) (inserted sooner (next f x) waits)
  good_step listed waits x g =
      let d = g.due.0 in
      let i = d.0 in
      let m = d.1 in
      let y = next f x in
      let is : y ≡ nth f i (m + 1) = ap (next f) d.3 ∙ next_nth i m in
      let x_here : Has (listed ++ x ∷ []) (nth f i m) = subst (Has (listed ++ x ∷ [])) d.3 (has_push listed x) in
      let y_due : Due (listed ++ x ∷ []) y = (i, m + 1, d.2, is, λ j h. elim (cases_eq j m) [ inl e ↦ subst (λ k. Has (listed ++ x ∷ []) (nth f i k)) (sym e) x_here | inr n ↦ has_append_left listed (x ∷ []) (nth f i j) (d.4 j (omega arith)) ]) in
      let x_below : AllByRecursion (λ z. Before z x) listed = All-weaker (λ z. AllByRecursion (Before z) (x ∷ waits)) (λ z. Before z x) (λ z h. h.0) listed g.below in
      let x_y : Before x y = later x y i m d.2 d.3 is in
      let apart : AllByRecursion (λ z. y ≡ z → ⊥) waits = apart_from listed waits x y i m d.2 d.3 is x_below g.due.1 in
      record {
        order = rising_inserted y waits g.order.1 apart;
        due = all_inserted sooner (Due (listed ++ x ∷ [])) y waits y_due (All-weaker (Due listed) (Due (listed ++ x ∷ [])) (λ z. due_more listed x z) waits g.due.1);
        has = λ k h.
            let p = g.has k h in
            elim (has_split x (nth f k p.0) waits p.1) [
              | inl e ↦
                  (let q : k ≡ i = ap (λ r. r.rank) (sym e ∙ d.3) in
                  (m + 1, inserted_has y (nth f k (m + 1)) waits (subst (λ r. Has (y ∷ waits) r) (is ∙ ap (λ v. nth f v (m + 1)) (sym q)) (has_head y waits))))
              | inr t ↦ (p.0, inserted_has y (nth f k p.0) waits (has_tail y (nth f k p.0) waits t))
            ];
        below = All-push (λ z. AllByRecursion (Before z) (inserted sooner y waits)) listed x
            (All-weaker (λ z. AllByRecursion (Before z) (x ∷ waits)) (λ z. AllByRecursion (Before z) (inserted sooner y waits)) (λ z h. all_inserted sooner (Before z) y waits (before_trans z x y h.0 x_y) h.1) listed g.below)
            (all_inserted sooner (Before x) y waits x_y g.order.0);
        rises = rising_push listed x g.rises x_below;
        each = All-push SomeRelease listed x g.each (i, m, d.2, d.3);
      }

  -- Nothing is listed yet.

  pub good_start : (waits : List Release) → Firsts f (f.task_count + 1) waits → Good [] waits
  good_start waits s =
      record {
        order = s.order;
        due = All-weaker (λ y. (i : ℕ) × (i < f.task_count + 1) × (y ≡ nth f i 0)) (Due []) (λ y p. (p.0, 0, omega (arith, p.1), p.2, λ j h. absurd (omega arith))) waits s.each;
        has = λ i h. (0, s.has i (omega arith));
        below = tt;
        rises = tt;
        each = tt;
      }

  -- The list at the end.

  before_upto : (x y z : Release) → Before x y → sooner y z ≡ true → Before x z
  before_upto x y z h k =
      elim (cases_Bool (sooner z x)) [
        | inl t ↦ absurd (both_ways (sooner y x) h (sooner_transitive y z x k t))
        | inr g ↦ g
      ]

  rising_at : (xs : List Release) (j k : ℕ) (d : Release) → Rising xs → j < k → k < length xs → Before (get_or xs j d) (get_or xs k d)
  rising_at [] j k d r h l = absurd (omega arith)
  rising_at (x ∷ xs) zero zero d r h l = absurd (omega arith)
  rising_at (x ∷ xs) zero (suc k) d r h l = All-get_or (Before x) xs k d (omega arith) r.0
  rising_at (x ∷ xs) (suc j) zero d r h l = absurd (omega arith)
  rising_at (x ∷ xs) (suc j) (suc k) d r h l = rising_at xs j k d r.1 (omega arith) (omega arith)

  -- a listed release that comes no later than the k-th stands no later
  here_before : (rs : List Release) (i m k n p q : ℕ) → nth f i n ≡ nth f p q → m < n → i ≤ f.task_count → ((j : ℕ) → j < q → Has rs (nth f p j)) → Rising rs → k < length rs → sooner (nth f i m) (get_or rs k nobody) ≡ true → (j : ℕ) × (j ≤ k) × (get_or rs j nobody ≡ nth f i m)
  here_before rs i m k n p q same less h all rises l t =
      let r : i ≡ p = ap (λ u. u.rank) same in
      let w : m < q = count_same i p n q m same r h less in
      let a = all m w in
      let e : get_or rs a.0 nobody ≡ nth f i m = a.2 nobody ∙ ap (λ v. nth f v m) (sym r) in
      elim (cases_lt k a.0) [
        | inl y ↦ absurd (both_ways (sooner (nth f i m) (get_or rs k nobody)) (subst (λ u. Before (get_or rs k nobody) u) e (rising_at rs k a.0 nobody rises y a.1)) t)
        | inr y ↦ (a.0, y, e)
      ]

  pub good_end : (n : ℕ) (rs waits : List Release) → length rs ≡ n → Good rs waits → FirstReleases f n rs
  good_end n rs waits l g =
      record {
        count = l;
        each = λ k h. All-get_or SomeRelease rs k nobody (omega arith) g.each;
        rise = λ j k h m. rising_at rs j k nobody g.rises h (omega arith);
        all = λ i m k h c t.
            let last = get_or rs k nobody in
            let w = g.has i h in
            let b : Before last (nth f i w.0) = all-has (Before last) waits (nth f i w.0) (All-get_or (λ x. AllByRecursion (Before x) waits) rs k nobody (omega arith) g.below) w.1 in
            let d = all-has (Due rs) waits (nth f i w.0) g.due w.1 in
            elim (cases_lt m w.0) [
              | inr y ↦
                  absurd (before_itself (nth f i m)
                  (upto_before (nth f i m) last (nth f i m) t
                  (before_upto last (nth f i w.0) (nth f i m) b (nth_rises i w.0 m y))))
              | inl y ↦ here_before rs i m k w.0 d.0 d.1 d.3 y h d.4 g.rises (omega arith) t
            ];
      }

-- Calls on the queue.

pub held_put : (x : Release) (q r : Lent Release) → q.len < length q.entries → r ≡ put_in sooner x q → (held r ≡ inserted sooner x (held q)) × (r.len ≡ q.len + 1) × (length r.entries ≡ length q.entries)
held_put x q r l e =
    let a = put_held sooner sooner_total sooner_transitive sooner_ties x q l in
    let b = put_room sooner sooner_total sooner_transitive sooner_ties x q l in
    (ap held e ∙ a, ap (λ s. s.len) e ∙ b.0, ap (λ s. length s.entries) e ∙ b.1)

pub advanced : (f : Figures) (x y : Release) (q r s : Lent Release) → q.len ≤ length q.entries → Some x ≡ first (held q) → r ≡ without 1 q → y ≡ next f x → s ≡ put_in sooner y r → (length s.entries ≡ length q.entries) × (s.len ≡ q.len) × Advanced f (held q) x (held s)
advanced f x y q r s w some e n p =
    let t = first_taken x q w some in
    let l : r.len ≡ q.len - 1 = ap (λ v. v.len) e in
    let m : length r.entries ≡ length q.entries = ap (λ v. length v.entries) e in
    let u = held_put y r s (omega (arith, t.0)) p in
    let a : held s ≡ inserted sooner (next f x) (held (without 1 q)) = u.0 ∙ ap (λ v. inserted sooner v (held r)) n ∙ ap (λ v. inserted sooner (next f x) (held v)) e in
    (u.2 ∙ m, omega (arith, u.1, t.0), record { rest = held (without 1 q); taken = t.1; waits = a })

firsts_apart : (f : Figures) (n : ℕ) (waits : List Release) → AllByRecursion (λ y. (i : ℕ) × (i < n) × (y ≡ nth f i 0)) waits → AllByRecursion (λ y. nth f n 0 ≡ y → ⊥) waits
firsts_apart f n [] a = tt
firsts_apart f n (y ∷ ys) a =
    (λ e. let r : n ≡ a.0.0 = ap (λ u. u.rank) (e ∙ a.0.2) in omega (arith, a.0.1), firsts_apart f n ys a.1)

firsts_more : (f : Figures) (n : ℕ) (waits : List Release) → Firsts f n waits → Firsts f (n + 1) (inserted sooner (nth f n 0) waits)
firsts_more f n waits s =
    record {
      order = rising_inserted (nth f n 0) waits s.order (firsts_apart f n waits s.each);
      each = all_inserted sooner (λ y. (i : ℕ) × (i < n + 1) × (y ≡ nth f i 0)) (nth f n 0) waits (n, omega arith, refl)
          (All-weaker (λ y. (i : ℕ) × (i < n) × (y ≡ nth f i 0)) (λ y. (i : ℕ) × (i < n + 1) × (y ≡ nth f i 0)) (λ y p. (p.0, omega (arith, p.1), p.2)) waits s.each);
      has = λ i h.
          elim (cases_eq i n) [
            | inl e ↦ subst (λ k. Has (inserted sooner (nth f n 0) waits) (nth f k 0)) (sym e) (inserted_has (nth f n 0) (nth f n 0) waits (has_head (nth f n 0) waits))
            | inr d ↦ inserted_has (nth f n 0) (nth f i 0) waits (has_tail (nth f n 0) (nth f i 0) waits (s.has i (omega arith)))
          ];
    }

-- the first release of one more source waits
pub first_put : (f g : Figures) (n : ℕ) (before after : List Release) → g ≡ f → after ≡ inserted sooner (nth g n 0) before → Firsts f n before → Firsts f (n + 1) after
first_put f g n before after e w s =
    subst (Firsts f (n + 1)) (sym (w ∙ ap (λ h. inserted sooner (nth h n 0) before) e)) (firsts_more f n before s)

pub some_period : (f : Figures) → Listed f → (i : ℕ) → i ≤ f.task_count → 1 ≤ period_at f i
some_period f l i h =
    elim (cases_lt i f.task_count) [
      | inl y ↦ subst (λ n. 1 ≤ n) (sym (cond-true {A = ℕ} (ltb i f.task_count) (task f i).period f.period (lt-ltb i f.task_count y))) (l.periods i y).0
      | inr y ↦ subst (λ n. 1 ≤ n) (sym (cond-false {A = ℕ} (ltb i f.task_count) (task f i).period f.period (le-ltb i f.task_count y))) l.own.0
    ]

pub small_period : (f : Figures) → Listed f → (i : ℕ) → period_at f i ≤ 1000000
small_period f l i =
    elim (cases_lt i f.task_count) [
      | inl y ↦ subst (λ n. n ≤ 1000000) (sym (cond-true {A = ℕ} (ltb i f.task_count) (task f i).period f.period (lt-ltb i f.task_count y))) (l.periods i y).1
      | inr y ↦ subst (λ n. n ≤ 1000000) (sym (cond-false {A = ℕ} (ltb i f.task_count) (task f i).period f.period (le-ltb i f.task_count y))) l.own.1
    ]

abbrev pub Slight : Figures → ℕ → Release → Type 0
Slight f t y = (y.rank ≤ f.task_count) × (y.tick ≤ t)

pub slight_step : (f : Figures) → Listed f → (t : ℕ) (before after : List Release) (r : Release) → Advanced f before r after → AllByRecursion (Slight f t) before → AllByRecursion (Slight f (t + 1000000)) after
slight_step f l t before after r a h =
    let s = subst (AllByRecursion (Slight f t)) a.taken h in
    let n : Slight f (t + 1000000) (next f r) = (s.0.0, omega (arith, s.0.1, small_period f l r.rank)) in
    subst (AllByRecursion (Slight f (t + 1000000))) (sym a.waits)
    (all_inserted sooner (Slight f (t + 1000000)) (next f r) a.rest n
    (All-weaker (Slight f t) (Slight f (t + 1000000)) (λ y p. (p.0, omega (arith, p.1))) a.rest s.1))

pub slight_start : (f : Figures) (waits : List Release) → Firsts f (f.task_count + 1) waits → AllByRecursion (Slight f 0) waits
slight_start f waits s =
    All-weaker (λ y. (i : ℕ) × (i < f.task_count + 1) × (y ≡ nth f i 0)) (Slight f 0)
    (λ y p.
    let a : y.rank ≡ p.0 = ap (λ u. u.rank) p.2 in
    let b : y.tick ≡ 0 * period_at f p.0 = ap (λ u. u.tick) p.2 in
    let c : 0 * period_at f p.0 ≡ 0 = zero-mul (period_at f p.0) in
    (omega (arith, p.1), omega arith))
    waits s.each

pub good_more : (f : Figures) (l : Listed f) (before after rs : List Release) (r : Release) → Advanced f before r after → Good f (some_period f l) rs before → Good f (some_period f l) (rs ++ r ∷ []) after
good_more f l before after rs r a g =
    subst (Good f (some_period f l) (rs ++ r ∷ [])) (sym a.waits) (good_step f (some_period f l) rs a.rest r (subst (Good f (some_period f l) rs) a.taken g))

pub listed : (f : Figures) → Sound f → (f.period ≡ 0 → ⊥) → Listed f
listed f s n =
    let p : 1 ≤ f.period = omega arith in
    let c = s.counts p in
    record {
      few = c.3;
      numbers = λ i h. omega (arith, (s.shares i (p, h)).3, c.3);
      periods = λ i h. let t = s.times i (p, h) in (omega (arith, t.1, t.2, t.3), t.0);
      own = (p, (s.fits p).1);
    }
