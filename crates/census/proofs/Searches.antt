-- What one more number adds to the search behind the census.
use Rattle.std.proofs.Common.{◌≡◌, ℕ, zero, suc, ◌+◌, ◌<◌, ◌≤◌, Bool, true, false, cond, ◌||◌, eqb, ltb, ◌≢◌, List, [], ◌∷◌, ◌++◌, length, get_or, take, set, replicate, count_by, sym, refl, ap, ◌∙◌, subst, inl, inr, arith}
use Rattle.std.proofs.lemmas.List.{get_or-set_same, get_or-set_other, length-set, length-append, get_or_past, get_or-replicate, length-replicate, take_more, take-append-le, take_all}
use Rattle.std.proofs.lemmas.List.Sums.{sum_by-set, sum_by_push, count_by-le-length}
use Rattle.std.proofs.lemmas.Bool.{cases_eq, cases_lt, cases_Bool, cond_both, ne_eqb, eq-eqb, eqb-true, eqb-false, both_ways, or_parts, or_cases, and_right, cond-true, cond-false}
use Rattle.kinds.specs.declared.Kind.{Kind}
use Rattle.kinds.specs.Maps.{bit, refers, bits_set, Next}
use Rattle.kinds.proofs.Bits.{no_high_bit}
use Rattle.kinds.proofs.Ones.{scan_all}
use Rattle.heap.specs.declared.Heap.{Heap}
use Rattle.heap.specs.Handles.{is_spare, row, state_of, stray}
use Rattle.heap.specs.Objects.{kind_of, size_of, is_ref, word_of, in_slot, along, times, measures_of}
use Rattle.heap.specs.Room.{in_use}
use Rattle.census.specs.declared.Finds.{Finds}
use Rattle.census.specs.declared.Count.{Count}
use Rattle.census.specs.Counts.{Reachable, Counted}
use Rattle.census.specs.Finds.{named, is_seen, found, nothing, noted, Sound, Grown, Rooted, FollowedTo, Followed, Closed}

-- one more is seen
seen_more : (xs : List Bool) (i : ℕ) → i < length xs → get_or xs i false ≡ false → count_by (λ b. b) (set xs i true) ≡ count_by (λ b. b) xs + 1
seen_more xs i l e =
    let s = sum_by-set (λ b. cond {A = ℕ} b 1 0) xs i true false l in
    let z : cond {A = ℕ} (get_or xs i false) 1 0 ≡ 0 = rw e in
    omega arith

-- there is room for what is not seen yet
pub room : (xs : List Bool) (i : ℕ) → i < length xs → get_or xs i false ≡ false → count_by (λ b. b) xs < length xs
room xs i l e =
    let s = seen_more xs i l e in
    let n = count_by-le-length (λ b. b) (set xs i true) in
    let k = length-set xs i true in
    omega arith

times_push : (x : ℕ) (ys : List ℕ) (y : ℕ) → times x (ys ++ y ∷ []) ≡ times x ys + cond (eqb x y) 1 0
times_push x [] y = omega arith
times_push x (z ∷ ys) y = let i = times_push x ys y in omega arith

-- a number other than 0 that is not stray is that of a handle in use
used_from : (h : Heap) (x : ℕ) → stray h.table x ≡ false → x ≢ 0 → in_use h x ≡ true
used_from h x s n =
    let e : is_spare (state_of h.table x) ≡ false = rw (ne_eqb x 0 n) at s in
    rw e

-- what noting a number leaves
pub record Noted (h : Heap) (m : List ℕ) (f : Finds) (x : ℕ) (g : Finds) : Type 0 where
  pub sound : Sound h m g
  pub grown : Grown f g
  pub here : x ≢ 0 → is_seen g x ≡ true

pub same_grown : (f : Finds) → Grown f f
same_grown f = record { keeps = λ x e. e; prefix = λ n l. refl; count = omega arith }

pub grown_on : (f g k : Finds) → Grown f g → Grown g k → Grown f k
grown_on f g k a b =
    record {
      keeps = λ x e. b.keeps x (a.keeps x e);
      prefix = λ n l. let c = a.count in b.prefix n (omega arith) ∙ a.prefix n l;
      count = let c = a.count in let d = b.count in omega arith;
    }

-- a number that is none or seen adds nothing
stands : (h : Heap) (m : List ℕ) (f : Finds) (x : ℕ) → Sound h m f → (eqb x 0 || is_seen f x) ≡ true → Noted h m f x f
stands h m f x s e =
    record {
      sound = s;
      grown = same_grown f;
      here = λ n. elim (or_cases (eqb x 0) (is_seen f x) e) [ inl z ↦ absurd (n (eqb-true x 0 z)) | inr z ↦ z ];
    }

-- any other is one more
adds : (h : Heap) (m : List ℕ) (f : Finds) (x n : ℕ) → Sound h m f → x < length f.seen → n ≡ size_of (measures_of h) h.table x → n ≤ 255 → (x ≢ 0 → Reachable h m x × (in_use h x ≡ true)) → (eqb x 0 || is_seen f x) ≡ false
    → Noted h m f x (record { list = record { items = found f ++ x ∷ [] }; seen = set f.seen x true; words = f.words + n })
adds h m f x n s l e k w t =
    let p = or_parts (eqb x 0) (is_seen f x) t in
    let z : x ≢ 0 = eqb-false x 0 p.0 in
    let ct = s.tidy.count in
    let longer : length (found f ++ x ∷ []) ≡ length (found f) + 1 = length-append (found f) (x ∷ []) in
    let here : get_or (set f.seen x true) x false ≡ true = get_or-set_same f.seen x true false l in
    let there : (y : ℕ) → y ≢ x → get_or (set f.seen x true) y false ≡ is_seen f y = λ y d. get_or-set_other f.seen x y true false d in
    record {
      sound = record {
        reached = λ y g. elim (cases_eq y x) [
          | inl q ↦ (subst (λ (v : ℕ). Reachable h m v × (in_use h v ≡ true)) (sym q) (w z))
          | inr d ↦ s.reached y (sym (there y d) ∙ g)
        ];
        once = λ y. let a = times_push y (found f) x in let o = s.once y in elim (cases_eq y x) [
          | inl q ↦
              (let g : get_or (set f.seen x true) y false ≡ true = ap (λ (v : ℕ). get_or (set f.seen x true) v false) q ∙ here in
              let u : is_seen f y ≡ false = ap (is_seen f) q ∙ p.1 in
              let o' : times y (found f) ≡ 0 = o ∙ cond-false (is_seen f y) 1 0 u in
              let b : cond {A = ℕ} (eqb y x) 1 0 ≡ 1 = cond-true (eqb y x) 1 0 (eq-eqb y x q) in
              a ∙ (rw (g, o', b)))
          | inr d ↦
              (let b : cond {A = ℕ} (eqb y x) 1 0 ≡ 0 = cond-false (eqb y x) 1 0 (ne_eqb y x d) in
              let v : times y (found f ++ x ∷ []) ≡ cond (is_seen f y) 1 0 = omega arith in
              v ∙ (rw (there y d)))
        ];
        tidy = record {
          count = let a = seen_more f.seen x l p.1 in omega arith;
          words = let a = s.tidy.words in omega arith;
        };
        words = let a = sum_by_push (size_of (measures_of h) h.table) (found f) x in let b = s.words in omega arith;
      };
      grown = record {
        keeps = λ y g. elim (cases_eq y x) [ inl q ↦ (ap (λ (v : ℕ). get_or (set f.seen x true) v false) q ∙ here) | inr d ↦ (there y d ∙ g) ];
        prefix = λ i u. take-append-le i (found f) (x ∷ []) u;
        count = omega arith;
      };
      here = λ _. here;
    }

noted_leaves : (h : Heap) (m : List ℕ) (f : Finds) (x : ℕ) → Sound h m f → x < length f.seen → size_of (measures_of h) h.table x ≤ 255 → stray h.table x ≡ false → (x ≢ 0 → Reachable h m x)
    → Noted h m f x (noted f x (size_of (measures_of h) h.table x))
noted_leaves h m f x s l k t w =
    cond_both (eqb x 0 || is_seen f x) f
    (record { list = record { items = found f ++ x ∷ [] }; seen = set f.seen x true; words = f.words + size_of (measures_of h) h.table x })
    (Noted h m f x)
    (stands h m f x s)
    (adds h m f x (size_of (measures_of h) h.table x) s l refl k (λ z. (w z, used_from h x t z)))

-- the same of what the code leaves, with the size that it found
pub visited : (h : Heap) (m : List ℕ) (f g : Finds) (x n : ℕ) → Sound h m f → x < length f.seen → n ≡ size_of (measures_of h) h.table x → n ≤ 255 → stray h.table x ≡ false → (x ≢ 0 → Reachable h m x)
    → g ≡ noted f x n → Noted h m f x g
visited h m f g x n s l e k t w q =
    let size : size_of (measures_of h) h.table x ≤ 255 = omega arith in
    let left : noted f x (size_of (measures_of h) h.table x) ≡ g = rw (← e) (sym q) in
    subst (Noted h m f x) left (noted_leaves h m f x s l size t w)

-- a search that has found nothing
pub begins : (h : Heap) (m : List ℕ) → Sound h m nothing
begins h m =
    record {
      reached = λ x e. absurd (both_ways (is_seen nothing x) (unseen x) e);
      once = λ x. rw (unseen x);
      tidy = record { count = refl; words = omega arith };
      words = refl;
    }
  where
    unseen : (x : ℕ) → get_or (replicate 257 false) x false ≡ false
    unseen x =
        elim (cases_lt x 257) [
          | inl p ↦ get_or-replicate 257 x false false p
          | inr q ↦ get_or_past (replicate 257 false) x false (rw (length-replicate 257 false) q)
        ]

-- what a word names: nothing, unless it is a reference
not_named : (h : Heap) (m : List ℕ) (x j : ℕ) → is_ref (measures_of h) h.table x j ≡ false → named h m x j ≡ 0
not_named h m x j e = cond-false (is_ref (measures_of h) h.table x j) (word_of h m x j) 0 e

reachable_by : (h : Heap) (m : List ℕ) (x j : ℕ) → Reachable h m x → named h m x j ≢ 0 → Reachable h m (named h m x j)
reachable_by h m x j r n =
    elim (cases_Bool (is_ref (measures_of h) h.table x j)) [
      | inl t ↦ along j r t (sym (cond-true (is_ref (measures_of h) h.table x j) (word_of h m x j) 0 t)) n
      | inr f ↦ absurd (n (not_named h m x j f))
    ]

-- the same of a number that the code has for it
pub reached_by : (h : Heap) (m : List ℕ) (x j y : ℕ) → y ≡ named h m x j → Reachable h m x → y ≢ 0 → Reachable h m y
reached_by h m x j y e r n = subst (Reachable h m) (sym e) (reachable_by h m x j r (λ z. n (e ∙ z)))

-- a word whose bit is not set is no reference
bit_refers : (h : Heap) (m : List ℕ) (k : Kind) (x j : ℕ) → k ≡ kind_of (measures_of h) (row h.table x).kind → bit k.map j ≡ false → named h m x j ≡ 0
unfolding refers
bit_refers h m k x j e b =
    let r : is_ref (measures_of h) h.table x j ≡ false =
    subst (λ (q : Kind). refers q j ≡ false) e (and_right (ltb j k.size) (bit k.map j) b) in
    not_named h m x j r

-- the words up to the next reference, and that one, are followed
pub followed_more : (h : Heap) (m : List ℕ) (k : Kind) (f g : Finds) (x from r : ℕ) → k ≡ kind_of (measures_of h) (row h.table x).kind → Next k.map from r
    → Grown f g → (named h m x r ≢ 0 → is_seen g (named h m x r) ≡ true) → FollowedTo h m f x from → FollowedTo h m g x (r + 1)
followed_more h m k f g x from r e n o here w j l z =
    elim (cases_lt j from) [
      | inl p ↦ o.keeps (named h m x j) (w j p z)
      | inr q ↦ elim (cases_lt j r) [
        | inl p ↦ absurd (z (bit_refers h m k x j e (n.none_before j q p)))
        | inr p ↦
            (let i : j ≡ r = omega arith in
            let z' : named h m x r ≢ 0 = subst (λ (a : ℕ). named h m x a ≢ 0) i z in
            subst (λ (a : ℕ). is_seen g (named h m x a) ≡ true) (sym i) (here z'))
      ]
    ]

-- when every set bit is met, every reference is followed
pub followed_all : (h : Heap) (m : List ℕ) (k : Kind) (f : Finds) (x from : ℕ) → k ≡ kind_of (measures_of h) (row h.table x).kind → k.map < 4294967296
    → bits_set k.map from ≡ bits_set k.map 32 → FollowedTo h m f x from → Followed h m f x
followed_all h m k f x from e u b w j z =
    elim (cases_lt j from) [
      | inl p ↦ w j p z
      | inr q ↦ elim (cases_lt j 32) [
        | inl p ↦ absurd (z (bit_refers h m k x j e (scan_all k.map from j b q p)))
        | inr p ↦ absurd (z (bit_refers h m k x j e (no_high_bit k.map j u p)))
      ]
    ]

times_at : (xs : List ℕ) (i : ℕ) → i < length xs → times (get_or xs i 0) xs ≢ 0
times_at [] i l = absurd (omega arith)
times_at (x ∷ xs) zero l = let e : cond {A = ℕ} (eqb x x) 1 0 ≡ 1 = cond-true (eqb x x) 1 0 (eq-eqb x x refl) in λ z. omega arith
times_at (x ∷ xs) (suc i) l = let r = times_at xs i (omega arith) in λ z. r (omega arith)

listed_seen : (h : Heap) (m : List ℕ) (f : Finds) (x : ℕ) → Sound h m f → times x (found f) ≢ 0 → is_seen f x ≡ true
listed_seen h m f x s n =
    elim (cases_Bool (is_seen f x)) [
      | inl t ↦ t
      | inr e ↦ absurd (n (s.once x ∙ cond-false (is_seen f x) 1 0 e))
    ]

-- what stands in the list is reachable
pub next_reached : (h : Heap) (m : List ℕ) (f : Finds) (i : ℕ) → Sound h m f → i < length (found f) → Reachable h m (get_or (found f) i 0)
next_reached h m f i s l = (s.reached (get_or (found f) i 0) (listed_seen h m f (get_or (found f) i 0) s (times_at (found f) i l))).0

-- one more handle of the list is followed
pub closed_more : (h : Heap) (m : List ℕ) (f g : Finds) (n : ℕ) → n < length (found f) → Grown f g → Followed h m g (get_or (found f) n 0) → Closed h m f n → Closed h m g (n + 1)
closed_more h m f g n l w a c x t j z =
    let p : take (n + 1) (found g) ≡ take n (found f) ++ get_or (found f) n 0 ∷ [] =
    w.prefix (n + 1) (omega arith) ∙ take_more (found f) n 0 l in
    let q : times x (take (n + 1) (found g)) ≡ times x (take n (found f)) + cond (eqb x (get_or (found f) n 0)) 1 0 =
    ap (times x) p ∙ times_push x (take n (found f)) (get_or (found f) n 0) in
    elim (cases_eq x (get_or (found f) n 0)) [
      | inl e ↦
          (subst (λ (y : ℕ). is_seen g (named h m y j) ≡ true) (sym e)
          (a j (subst (λ (y : ℕ). named h m y j ≢ 0) e z)))
      | inr d ↦
          (let b : cond {A = ℕ} (eqb x (get_or (found f) n 0)) 1 0 ≡ 0 = cond-false (eqb x (get_or (found f) n 0)) 1 0 (ne_eqb x (get_or (found f) n 0) d) in
          let t' : times x (take n (found f)) ≢ 0 = λ o. t (omega arith) in
          w.keeps (named h m x j) (c x t' j z))
    ]

-- when the whole list is followed, all that is reachable is seen
pub all_seen : (h : Heap) (m : List ℕ) (f : Finds) → Sound h m f → Rooted h f (length h.slots) → Closed h m f (length (found f)) → (x : ℕ) → Reachable h m x → is_seen f x ≡ true
all_seen h m f s r c x (in_slot i e n) =
    elim (cases_lt i (length h.slots)) [
      | inl p ↦ (subst (λ (a : ℕ). is_seen f a ≡ true) e (r i p (λ z. n (sym e ∙ z))))
      | inr q ↦ absurd (n (sym e ∙ get_or_past h.slots i 0 q))
    ]
all_seen h m f s r c x (along {p = p} j q t e n) =
    let g = all_seen h m f s r c p q in
    let o : times p (take (length (found f)) (found f)) ≢ 0 = λ z'. (let z : times p (found f) ≡ 0 = ap (times p) (sym (take_all (length (found f)) (found f) (omega arith))) ∙ z' in let a = s.once p in let b : cond {A = ℕ} (is_seen f p) 1 0 ≡ 1 = cond-true (is_seen f p) 1 0 g in omega arith) in
    let k : named h m p j ≡ x = cond-true (is_ref (measures_of h) h.table p j) (word_of h m p j) 0 t ∙ e in
    subst (λ (a : ℕ). is_seen f a ≡ true) k (c p o j (λ z. n (sym k ∙ z)))

-- then what is found is counted
pub counted : (h : Heap) (m : List ℕ) (f : Finds) (c : Count) → Sound h m f → Rooted h f (length h.slots) → Closed h m f (length (found f)) → c.objects ≡ length (found f) → c.words ≡ f.words → Counted h m c
counted h m f c s o k a b =
    record {
      listed = found f;
      each = λ x w. s.once x ∙ cond-true (is_seen f x) 1 0 (all_seen h m f s o k x w);
      only = λ x n. (s.reached x (listed_seen h m f x s n)).0;
      used = λ x w. (s.reached x (all_seen h m f s o k x w)).1;
      objects = a;
      words = b ∙ s.words;
    }

pub rooted_on : (h : Heap) (f g : Finds) (n : ℕ) → Grown f g → Rooted h f n → Rooted h g n
rooted_on h f g n w r s l z = w.keeps (get_or h.slots s 0) (r s l z)
