-- Laws of paths.
use Rattle.std.proofs.Common.{sym, nat_le, nat_lt, length-append, ◌≡◌, ℕ, zero, suc, ◌<◌, ◌≤◌, Bool, true, false, List, [], ◌∷◌, ◌++◌, Option, Some, None, nat_eq, length, refl, ◌∙◌, ap, arith}
use Rattle.std.proofs.lemmas.Bool.Decides.{nat_tests}
use Rattle.tcl_core.specs.Trees.{Node, at_end}
use Rattle.tcl_core.specs.Paths.{falls, shorter, Path, same, guarded, strip, rejoined, top_of, rise, rise_to, seen_height}

pub not_both : {A : Type 0} {o : Option A} {a : A} → o ≡ None → o ≡ Some a → Prim.⊥
not_both e f = cc

pub Some-inj : {A : Type 0} {a b : A} (z : A) → Some a ≡ Some b → a ≡ b
Some-inj z e = cc

pub guarded-None : {A B : Type 0} (b : Bool) {o : Option A} {u : Option B} → (o ≡ None → u ≡ None) → guarded b o ≡ None → guarded b u ≡ None
guarded-None true f e = f e
guarded-None false f e = refl

pub guarded-nothing : {A : Type 0} (b : Bool) → guarded {A = A} b None ≡ None
guarded-nothing true = refl
guarded-nothing false = refl

pub guarded-Some : {A : Type 0} (b : Bool) {o : Option A} {a : A} → guarded b o ≡ Some a → (b ≡ true) × (o ≡ Some a)
guarded-Some true e = (refl, e)
guarded-Some false e = cc

pub same-refl : (x : List ℕ) → same x x ≡ true
same-refl [] = refl
same-refl (x ∷ xs) = grind (arith, nat_tests, same-refl xs)

pub same_sym : (x y : List ℕ) → same x y ≡ same y x
same_sym [] [] = refl
same_sym [] (y ∷ ys) = refl
same_sym (x ∷ xs) [] = refl
same_sym (x ∷ xs) (y ∷ ys) = grind (arith, nat_tests, same_sym xs ys)

pub same-sound : (x y : List ℕ) → same x y ≡ true → x ≡ y
same-sound [] [] e = refl
same-sound [] (y ∷ ys) e = cc
same-sound (x ∷ xs) [] e = cc
same-sound (x ∷ xs) (y ∷ ys) e = grind (arith, nat_tests, same-sound xs ys)

guarded-at_end : {O : Type 0} (b d : Bool) {o : Option Path} (u : Option Path) (f : Option (Node O) → Option (Node O)) (n : Option (Node O)) → b ≡ d → (o ≡ None → at_end u f n ≡ n) → guarded b o ≡ None → at_end (guarded d u) f n ≡ n
guarded-at_end true true u f n s g e = g e
guarded-at_end true false u f n s g e = refl
guarded-at_end false true u f n s g e = cc
guarded-at_end false false u f n s g e = refl

pub guarded₂-None : {A B C : Type 0} (b d : Bool) {o : Option A} {u : Option B} {v : Option C} → b ≡ d → (o ≡ None → u ≡ None → v ≡ None) → guarded b o ≡ None → guarded d u ≡ None → guarded d v ≡ None
guarded₂-None true true s f e g = f e g
guarded₂-None true false s f e g = refl
guarded₂-None false true s f e g = cc
guarded₂-None false false s f e g = refl

rejoined_out : (x : List ℕ) (c : List (List ℕ)) (o : Option (List (List ℕ))) (b : Bool) (a : List (List ℕ)) → ((a2 : List (List ℕ)) → o ≡ Some a2 → strip c a2 ≡ None) → rejoined x o b ≡ Some a → strip (x ∷ c) a ≡ None
rejoined_out x c (Some a2) b a f e = rw (← Some-inj a e) (ap (λ o. guarded (same x x) o) (f a2 refl) ∙ guarded-None (same x x) {o = None} (λ g. g) (guarded-nothing (same x x)))
rejoined_out x c None true a f e = rw (← Some-inj a e) refl
rejoined_out x c None false a f e = cc

top_out : (x : List ℕ) (c : List (List ℕ)) (n : ℕ) (a : List (List ℕ)) → top_of n ≡ Some a → strip (x ∷ c) a ≡ None
top_out x c zero a e = rw (← Some-inj a e) refl
top_out x c (suc n) a e = cc

rejoined_elsewhere : (x y : List ℕ) (c p : List (List ℕ)) (o : Option (List (List ℕ))) (b : Bool) (a : List (List ℕ)) → ((a2 : List (List ℕ)) → strip c p ≡ None → o ≡ Some a2 → strip c a2 ≡ None) → guarded (same x y) (strip c p) ≡ None → rejoined y o b ≡ Some a → strip (x ∷ c) a ≡ None
rejoined_elsewhere x y c p (Some a2) b a f g e = rw (← Some-inj a e) (guarded-None (same x y) (λ h. f a2 h refl) g)
rejoined_elsewhere x y c p None true a f g e = rw (← Some-inj a e) refl
rejoined_elsewhere x y c p None false a f g e = cc

pub strip-append : (c p r : List (List ℕ)) → strip (c ++ p) (c ++ r) ≡ strip p r
strip-append [] p r = refl
strip-append (x ∷ c) p r = ap (λ b. guarded b (strip (c ++ p) (c ++ r))) (same-refl x) ∙ strip-append c p r

pub strip_own : (c q : List (List ℕ)) → strip c (c ++ q) ≡ Some q
strip_own [] q = refl
strip_own (x ∷ c) q = ap (λ b. guarded b (strip c (c ++ q))) (same-refl x) ∙ strip_own c q

pub strip-sound : (c p q : List (List ℕ)) → strip c p ≡ Some q → p ≡ c ++ q
strip-sound [] p q e = cc
strip-sound (x ∷ c) [] q e = cc
strip-sound (x ∷ c) (y ∷ p) q e =
    let h : (same x y ≡ true) × (strip c p ≡ Some q) = guarded-Some (same x y) e in
    cc (same-sound x y h.0, strip-sound c p q h.1)

-- what is not in c is in nothing below c
pub apart : (c p r : List (List ℕ)) → strip c p ≡ None → strip (c ++ r) p ≡ None
apart [] p r e = cc
apart (x ∷ c) [] r e = refl
apart (x ∷ c) (y ∷ p) r e = guarded-None (same x y) (apart c p r) e

-- what is at c or below it is not at p, where p is not in c
pub at_end-apart : {O : Type 0} (c p r : List (List ℕ)) (f : Option (Node O) → Option (Node O)) (o : Option (Node O)) → strip c p ≡ None → at_end (strip p (c ++ r)) f o ≡ o
at_end-apart [] p r f o e = cc
at_end-apart (x ∷ c) [] r f o e = refl
at_end-apart (x ∷ c) (y ∷ p) r f o e = guarded-at_end (same x y) (same y x) _ f o (same_sym x y) (at_end-apart c p r f o) e

-- a subtree that neither has c nor is in c
pub apart_below : (c p r : List (List ℕ)) (d : List ℕ) → strip c p ≡ None → strip (p ++ d ∷ []) c ≡ None → strip (p ++ d ∷ []) (c ++ r) ≡ None
apart_below [] p r d e f = cc
apart_below (x ∷ c) [] r d e f = guarded-None (same d x) (λ g. elim (not_both {o = strip [] c} g refl) [ ]) f
apart_below (x ∷ c) (y ∷ p) r d e f = guarded₂-None (same x y) (same y x) (same_sym x y) (apart_below c p r d) e f

-- rising within a subtree
pub rise_within : (c q : List (List ℕ)) (n : ℕ) (b : List (List ℕ)) → rise n q ≡ Some b → rise n (c ++ q) ≡ Some (c ++ b)
rise_within [] q n b e = e
rise_within (x ∷ c) q n b e = ap (λ o. rejoined x o (nat_eq n (suc (length (c ++ q))))) (rise_within c q n b e)

-- rising out of a subtree
pub rise_out : (c q : List (List ℕ)) (n : ℕ) (a : List (List ℕ)) → rise n q ≡ None → rise n (c ++ q) ≡ Some a → strip c a ≡ None
rise_out [] q n a e f = elim (not_both e f) [ ]
rise_out (x ∷ c) q n a e f = rejoined_out x c (rise n (c ++ q)) (nat_eq n (suc (length (c ++ q)))) a (λ a2. rise_out c q n a2 e) f

-- rising elsewhere
pub rise_elsewhere : (c p : List (List ℕ)) (n : ℕ) (a : List (List ℕ)) → strip c p ≡ None → rise n p ≡ Some a → strip c a ≡ None
rise_elsewhere [] p n a e f = cc
rise_elsewhere (x ∷ c) [] n a e f = top_out x c n a f
rise_elsewhere (x ∷ c) (y ∷ p) n a e f = rejoined_elsewhere x y c p (rise n p) (nat_eq n (suc (length p))) a (λ a2 g. rise_elsewhere c p n a2 g) e f

pub strip-length : (c p q : List (List ℕ)) → strip c p ≡ Some q → length q ≤ length p
strip-length [] p q e = omega (arith, ap length (Some-inj p e))
strip-length (x ∷ c) [] q e = cc
strip-length (x ∷ c) (y ∷ p) q e = omega (arith, strip-length c p q (guarded-Some (same x y) e).1)

-- what is reached from outside c and is in c is reached from above c
pub down_into : (c a down q : List (List ℕ)) → strip c a ≡ None → strip c (a ++ down) ≡ Some q → length q < length down
down_into [] a down q e f = cc
down_into (x ∷ c) [] [] q e f = cc
down_into (x ∷ c) [] (y ∷ down) q e f = omega (arith, strip-length c down q (guarded-Some (same x y) f).1)
down_into (x ∷ c) (y ∷ a) down q e f =
    let h : (same x y ≡ true) × (strip c (a ++ down) ≡ Some q) = guarded-Some (same x y) f in
    down_into c a down q (rw h.0 at e) h.1

pub rise_past : (n : ℕ) (q : List (List ℕ)) → length q < n → rise n q ≡ None
rise_past zero [] lt = absurd (omega arith)
rise_past (suc n) [] lt = refl
rise_past n (x ∷ q) lt =
    let e : rise n q ≡ None = rise_past n q (omega arith) in
    let d : nat_eq n (suc (length q)) ≡ false = grind (arith, nat_tests) in
    rw (e, d) refl

-- the same at heights
pub rise_to_within : (c q : List (List ℕ)) (h : Option ℕ) (b : List (List ℕ)) → rise_to h q ≡ Some b → rise_to h (c ++ q) ≡ Some (c ++ b)
rise_to_within c q None b e = cc
rise_to_within c q (Some n) b e = rise_within c q n b e

pub rise_to_out : (c q : List (List ℕ)) (h : Option ℕ) (a : List (List ℕ)) → rise_to h q ≡ None → rise_to h (c ++ q) ≡ Some a → strip c a ≡ None
rise_to_out c q None a e f = cc
rise_to_out c q (Some n) a e f = rise_out c q n a e f

pub rise_to_elsewhere : (c p : List (List ℕ)) (h : Option ℕ) (a : List (List ℕ)) → strip c p ≡ None → rise_to h p ≡ Some a → strip c a ≡ None
rise_to_elsewhere c p None a e f = cc
rise_to_elsewhere c p (Some n) a e f = rise_elsewhere c p n a e f

pub rise_to_past : (c q : List (List ℕ)) (h : Option ℕ) → rise_to h (c ++ q) ≡ None → rise_to h q ≡ None
rise_to_past c q h e = go (rise_to h q) refl
  where
    go : (o : Option (List (List ℕ))) → rise_to h q ≡ o → o ≡ None
    go None f = refl
    go (Some b) f = elim (not_both e (rise_to_within c q h b f)) [ ]

pub rise_into : (c a down q : List (List ℕ)) → strip c a ≡ None → strip c (a ++ down) ≡ Some q → rise (length down) q ≡ None
rise_into c a down q e f = rise_past (length down) q (down_into c a down q e f)

rejoined-length : (x : List ℕ) (xs : List (List ℕ)) (o : Option (List (List ℕ))) (n : ℕ) (b : List (List ℕ)) → ((a : List (List ℕ)) → o ≡ Some a → n ≤ length xs) → rejoined x o (nat_eq n (suc (length xs))) ≡ Some b → n ≤ suc (length xs)
rejoined-length x xs (Some a) n b f e = omega (arith, f a refl)
rejoined-length x xs None n b f e = go (nat_eq n (suc (length xs))) refl e
  where
    go : (t : Bool) → nat_eq n (suc (length xs)) ≡ t → rejoined x None t ≡ Some b → n ≤ suc (length xs)
    go true s g = grind (arith, nat_tests)
    go false s g = cc

pub rise-length : (n : ℕ) (q b : List (List ℕ)) → rise n q ≡ Some b → n ≤ length q
rise-length zero [] b e = omega arith
rise-length (suc n) [] b e = cc
rise-length n (x ∷ xs) b e = rejoined-length x xs (rise n xs) n b (λ a f. rise-length n xs a f) e

le_true : (n m : ℕ) → n ≤ m → nat_le n m ≡ true
le_true n m l = grind (arith, nat_tests)

-- the names up to where a rise within a subtree ends
pub falls_within : (c q : List (List ℕ)) (n : ℕ) (b : List (List ℕ)) → rise n q ≡ Some b → falls n (c ++ q) ≡ falls n q
falls_within [] q n b e = refl
falls_within (x ∷ c) q n b e =
    let t : nat_le n (length (c ++ q)) ≡ true = le_true n (length (c ++ q)) (omega (arith, rise-length n q b e, length-append c q)) in
    ap (λ z. shorter z (falls n (c ++ q)) (x ∷ (c ++ q))) t ∙ falls_within c q n b e

-- what is neither at c or below, nor above, is not above what is below c
pub beside : (c q r : List (List ℕ)) → strip c r ≡ None → strip r c ≡ None → strip r (c ++ q) ≡ None
beside [] q r e f = cc
beside (x ∷ c) q [] e f = cc
beside (x ∷ c) q (y ∷ r) e f = guarded₂-None (same x y) (same y x) (same_sym x y) (beside c q r) e f

child_top : (c q : List (List ℕ)) → strip c [] ≡ Some q → q ≡ []
child_top [] q e = sym (Some-inj q e)
child_top (x ∷ c) q e = cc

-- a child of what is not in c is c itself, or not in c
pub child_in : (c p q : List (List ℕ)) (d : List ℕ) → strip c p ≡ None → strip c (p ++ d ∷ []) ≡ Some q → q ≡ []
child_in [] p q d e f = cc
child_in (x ∷ c) [] q d e f = child_top c q (guarded-Some (same x d) f).1
child_in (x ∷ c) (y ∷ p) q d e f =
    let h : (same x y ≡ true) × (strip c (p ++ d ∷ []) ≡ Some q) = guarded-Some (same x y) f in
    child_in c p q d (rw h.0 at e) h.1

-- what was gone down is risen again
rise_all : (down : List (List ℕ)) → rise (length down) down ≡ Some []
rise_all [] = refl
rise_all (x ∷ d) =
    let e : rise (suc (length d)) d ≡ None = rise_past (suc (length d)) d (omega arith) in
    let f : nat_eq (suc (length d)) (suc (length d)) ≡ true = grind (arith, nat_tests) in
    rw (e, f) refl

pub rise_back : (a down : List (List ℕ)) → rise (length down) (a ++ down) ≡ Some a
rise_back [] down = rise_all down
rise_back (x ∷ a) down = ap (λ o. rejoined x o (nat_eq (length down) (suc (length (a ++ down))))) (rise_back a down)

-- heights as they are seen in a tree
pub seen_past : (q : List (List ℕ)) (n : ℕ) → length q < n → seen_height q (Some n) ≡ None
seen_past q n lt = let e : nat_lt (length q) n ≡ true = grind (arith, nat_tests) in rw e refl

pub seen_near : (q : List (List ℕ)) (n : ℕ) → n ≤ length q → seen_height q (Some n) ≡ Some n
seen_near q n le = let e : nat_lt (length q) n ≡ false = grind (arith, nat_tests) in rw e refl

rise_zero : (q : List (List ℕ)) → rise zero q ≡ Some q
rise_zero [] = refl
rise_zero (x ∷ q) =
    let e : rise zero q ≡ Some q = rise_zero q in
    let d : nat_eq zero (suc (length q)) ≡ false = grind (arith, nat_tests) in
    ap (λ b. rejoined x (rise zero q) b) d ∙ ap (λ o. rejoined x o false) e

rejoined_some : (x : List ℕ) (o : Option (List (List ℕ))) (b : Bool) → ((b ≡ false) → (a : List (List ℕ)) × (o ≡ Some a)) → (a : List (List ℕ)) × (rejoined x o b ≡ Some a)
rejoined_some x (Some a) b f = (x ∷ a, refl)
rejoined_some x None true f = ([], refl)
rejoined_some x None false f = let g : (a : List (List ℕ)) × (None ≡ Some a) = f refl in absurd (not_both refl g.1)

pub rise_some : (q : List (List ℕ)) (n : ℕ) → n ≤ length q → (a : List (List ℕ)) × (rise n q ≡ Some a)
rise_some q zero le = (q, rise_zero q)
rise_some [] (suc n) le = absurd (omega arith)
rise_some (x ∷ q) (suc n) le = rejoined_some x (rise (suc n) q) (nat_eq (suc n) (suc (length q))) (λ e. rise_some q (suc n) (grind (arith, nat_tests)))

-- what passes the top passes it as it is seen, and nothing else does
pub rise_far : (q : List (List ℕ)) (n : ℕ) → rise n q ≡ None → length q < n
rise_far q n e = go (nat_lt (length q) n) refl
  where
    go : (b : Bool) → nat_lt (length q) n ≡ b → length q < n
    go true f = grind (arith, nat_tests)
    go false f =
        let le : n ≤ length q = grind (arith, nat_tests) in
        elim (not_both e (rise_some q n le).1) [ ]

pub seen_out : (q : List (List ℕ)) (h : Option ℕ) → rise_to h q ≡ None → seen_height q h ≡ None
seen_out q None e = refl
seen_out q (Some n) e = seen_past q n (rise_far q n e)

pub seen_in : (q : List (List ℕ)) (h : Option ℕ) (a : List (List ℕ)) → rise_to h q ≡ Some a → seen_height q h ≡ h
seen_in q None a e = refl
seen_in q (Some n) a e = seen_near q n (rise-length n q a e)

-- seen, it passes the top just where it does
pub seen_rise : (q : List (List ℕ)) (h : Option ℕ) → rise_to (seen_height q h) q ≡ rise_to h q
seen_rise q None = refl
seen_rise q (Some n) = go (rise n q) refl
  where
    go : (o : Option (List (List ℕ))) → rise n q ≡ o → rise_to (seen_height q (Some n)) q ≡ rise n q
    go None e = ap (λ h. rise_to h q) (seen_out q (Some n) e) ∙ sym e
    go (Some a) e = ap (λ h. rise_to h q) (seen_in q (Some n) a e)

-- a child is no top
pub child_no_top : (p : Path) (name : List ℕ) → p ++ name ∷ [] ≡ [] → Prim.⊥
child_no_top [] name e = cc
child_no_top (x ∷ p) name e = cc
