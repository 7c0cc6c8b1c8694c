-- Replies and answers as they are seen in a subtree.
use Rattle.std.proofs.Common.{◌≡◌, ◌⊎◌, inl, inr, ℕ, zero, suc, ℤ, ◌+◌, ◌-◌, ◌<◌, ◌≤◌, Bool, true, false, List, [], ◌∷◌, ◌++◌, Option, Some, None, length, nat_le, nat_lt, nat_eq, refl, sym, ◌∙◌, ap, arith, length-append}
use Rattle.std.proofs.lemmas.Bool.Decides.{nat_tests, Decides-int_eq}
use Rattle.tcl_core.specs.Paths.{Path, Place, Height, rise, rise_to, rejoined, falls, together, same, shorter, unless}
use Rattle.tcl_core.specs.Endings.{Kind, Meter, Reply, IsQuit}
use Rattle.tcl_core.specs.Endings.Kind.{Full, Gone}
use Rattle.tcl_core.specs.Endings.Reply.{Completed, Stop, Exit, Cut}
use Rattle.tcl_core.specs.Endings.Cause.{Above}
use Rattle.tcl_core.specs.Entries.{Entry, Answer}
use Rattle.tcl_core.specs.Entries.Answer.{Replied, Heard, Nobody}
use Rattle.tcl_core.specs.Trees.{Tree, at, depth_of, nearest, seen_reply, seen_answer, seen_stop, stopped}
use Rattle.tcl_core.specs.Programs.{Wait}
use Rattle.tcl_core.specs.Runs.{Ending, carried, carried_by, ended, ends_gone, gone, gone_by, gone_from, grown, idle_up, is_told, idle_at, levels, names_gone, onward, lessened, is_own, answers_call, is_exit}
use Rattle.tcl_core.proofs.PathLaws.{not_both, Some-inj, falls_within, rise_far}

-- how far it is to where a rise ends
rejoined-measure : (x : List ℕ) (xs : List (List ℕ)) (o : Option (List (List ℕ))) (n : ℕ) (t : Bool) (b : List (List ℕ)) → nat_eq n (suc (length xs)) ≡ t → ((a : List (List ℕ)) → o ≡ Some a → length xs ≡ length a + n) → rejoined x o t ≡ Some b → suc (length xs) ≡ length b + n
rejoined-measure x xs (Some a) n t b d f e = let g : length xs ≡ length a + n = f a refl in let h : length b ≡ suc (length a) = ap length (sym (Some-inj (x ∷ a) e)) in omega arith
rejoined-measure x xs None n true b d f e = let h : length b ≡ 0 = ap length (sym (Some-inj [] e)) in grind (arith, nat_tests)
rejoined-measure x xs None n false b d f e = cc

pub rise-measure : (n : ℕ) (q b : List (List ℕ)) → rise n q ≡ Some b → length q ≡ length b + n
rise-measure zero [] b e = let h : length b ≡ 0 = ap length (sym (Some-inj [] e)) in omega arith
rise-measure (suc n) [] b e = cc
rise-measure n (x ∷ xs) b e = rejoined-measure x xs (rise n xs) n (nat_eq n (suc (length xs))) b refl (λ a f. rise-measure n xs a f) e

lt_true : (a b : ℕ) → a < b → nat_lt a b ≡ true
lt_true a b l = grind (arith, nat_tests)

lt_false : (a b : ℕ) → b ≤ a → nat_lt a b ≡ false
lt_false a b l = grind (arith, nat_tests)

-- what two places have together is no longer than either, and the last n steps are at most n
unless_least : (b : Bool) (n m : ℕ) → n ≤ m → unless b n ≤ m
unless_least true n m le = le
unless_least false n m le = omega arith

together_least : (p q : List (List ℕ)) → together p q ≤ length p
together_least [] q = omega arith
together_least (x ∷ p) [] = omega arith
together_least (x ∷ p) (y ∷ q) = unless_least (same x y) (suc (together p q)) (suc (length p)) (let le : together p q ≤ length p = together_least p q in omega arith)

shorter_least : (n : ℕ) (x : List ℕ) (xs : List (List ℕ)) (b : Bool) → nat_le n (length xs) ≡ b → length (falls n xs) ≤ n → length (shorter b (falls n xs) (x ∷ xs)) ≤ n
shorter_least n x xs true e le = le
shorter_least n x xs false e le = grind (arith, nat_tests)

falls_least : (n : ℕ) (p : List (List ℕ)) → length (falls n p) ≤ n
falls_least n [] = omega arith
falls_least n (x ∷ xs) = shorter_least n x xs (nat_le n (length xs)) refl (falls_least n xs)

-- a stop that names one above c, and one that doesn't, told within c
stop_far : (q : List (List ℕ)) (d b t n h : ℕ) (m : Meter) → length q ≡ b + h → b + d < n → seen_reply q (lessened (nat_lt (n + t) d) (n + h - d) (Full m)) ≡ Cut Above
stop_far q d b t n h m e lt =
    let f : nat_lt (n + t) d ≡ false = lt_false (n + t) d (omega arith) in
    let g : nat_lt (length q) (n + h - d) ≡ true = lt_true (length q) (n + h - d) (omega arith) in
    ap (λ y. seen_reply q (lessened y (n + h - d) (Full m))) f ∙ ap (λ y. stopped y (n + h - d) m) g

stop_near : (q : List (List ℕ)) (d b n h : ℕ) (m : Meter) (y : Bool) → length q ≡ b + h → n ≤ b + d → seen_reply q (lessened y (n + h - d) (Full m)) ≡ lessened y (n + h - d) (Full m)
stop_near q d b n h m true e le = refl
stop_near q d b n h m false e le =
    let g : nat_lt (length q) (n + h - d) ≡ false = lt_false (length q) (n + h - d) (omega arith) in
    ap (λ y. stopped y (n + h - d) m) g

stop_seen : (q down b : List (List ℕ)) (n h : ℕ) (m : Meter) (x : Bool) → nat_lt (length (b ++ down)) n ≡ x → length q ≡ length b + h →
    seen_reply q (lessened (nat_lt (n + together (falls h q) down) (length down)) (n + h - length down) (Full m)) ≡ carried_by (stopped x n m) (Some h) q down
stop_seen q down b n h m true f e =
    stop_far q (length down) (length b) (together (falls h q) down) n h m e (grind (arith, nat_tests, length-append b down))
stop_seen q down b n h m false f e =
    stop_near q (length down) (length b) n h m (nat_lt (n + together (falls h q) down) (length down)) e (grind (arith, nat_tests, length-append b down))

-- a gone one that is above c, and one that isn't, told within c
gone_far : (q : List (List ℕ)) (d b t n h : ℕ) → length q ≡ b + h → b + d < n → seen_reply q (lessened (nat_lt (n + t) d) (n + h - d) Gone) ≡ lessened (nat_lt ((b + d) + t) d) ((b + d) + h - d) Gone
gone_far q d b t n h e lt =
    let f : nat_lt (n + t) d ≡ false = lt_false (n + t) d (omega arith) in
    let f2 : nat_lt ((b + d) + t) d ≡ false = lt_false ((b + d) + t) d (omega arith) in
    let g : nat_lt (length q) (n + h - d) ≡ true = lt_true (length q) (n + h - d) (omega arith) in
    let same : length q ≡ (b + d) + h - d = omega arith in
    ap (λ y. seen_reply q (lessened y (n + h - d) Gone)) f ∙ ap (λ y. Stop (nearest y (length q) (n + h - d)) Gone) g ∙ ap (λ y. Stop y Gone) same ∙ sym (ap (λ y. lessened y ((b + d) + h - d) Gone) f2)

gone_near : (q : List (List ℕ)) (d b n h : ℕ) (y : Bool) → length q ≡ b + h → n ≤ b + d → seen_reply q (lessened y (n + h - d) Gone) ≡ lessened y (n + h - d) Gone
gone_near q d b n h true e le = refl
gone_near q d b n h false e le =
    let g : nat_lt (length q) (n + h - d) ≡ false = lt_false (length q) (n + h - d) (omega arith) in
    ap (λ y. Stop (nearest y (length q) (n + h - d)) Gone) g

gone_told : (q down b : List (List ℕ)) (n h l : ℕ) (x : Bool) → l ≡ length b + length down → nat_lt l n ≡ x → length q ≡ length b + h →
    seen_reply q (lessened (nat_lt (n + together (falls h q) down) (length down)) (n + h - length down) Gone) ≡ carried_by (Stop (nearest x l n) Gone) (Some h) q down
gone_told q down b n h l true k f e =
    gone_far q (length down) (length b) (together (falls h q) down) n h e (grind (arith, nat_tests)) ∙ ap (λ y. carried_by (Stop y Gone) (Some h) q down) (sym k)
gone_told q down b n h l false k f e =
    gone_near q (length down) (length b) n h (nat_lt (n + together (falls h q) down) (length down)) e (grind (arith, nat_tests))

any_seen : (q down b : List (List ℕ)) (n h : ℕ) (k : Kind) → length q ≡ length b + h →
    seen_reply q (lessened (nat_lt (n + together (falls h q) down) (length down)) (n + h - length down) k) ≡ carried_by (seen_stop (length (b ++ down)) n k) (Some h) q down
any_seen q down b n h (Full m) e = stop_seen q down b n h m (nat_lt (length (b ++ down)) n) refl e
any_seen q down b n h Gone e = gone_told q down b n h (length (b ++ down)) (nat_lt (length (b ++ down)) n) (length-append b down) refl e

-- what a caller in c is told does not depend on where c is
carried_by_within : (c q : List (List ℕ)) (h : Height) (down : Path) (r : Reply) (b : Path) → rise_to h q ≡ Some b → seen_reply q (carried_by r h (c ++ q) down) ≡ carried_by (seen_reply (b ++ down) r) h q down
carried_by_within c q None down r b e = absurd (not_both refl e)
carried_by_within c q (Some h) down (Completed x) b e = refl
carried_by_within c q (Some h) down (Exit n) b e = refl
carried_by_within c q (Some h) down (Cut x) b e = refl
carried_by_within c q (Some h) down (Stop n m) b e =
    ap (λ p. seen_reply q (lessened (nat_lt (n + together p down) (length down)) (n + h - length down) m)) (falls_within c q h b e)
    ∙ any_seen q down b n h m (rise-measure h q b e)

-- ## Callers that are gone

-- how far up nothing is in progress, in a whole and in a subtree with places of that length
abbrev SeenIdle : ℕ → Option ℕ → Option ℕ → Type 0
SeenIdle l o None = o ≡ None
SeenIdle l o (Some n) = ((n < l) × (o ≡ Some n)) ⊎ ((l ≤ n) × ((m : ℕ) × (o ≡ Some m) × (l ≤ m)))

idle_self : (l : ℕ) (o : Option ℕ) → SeenIdle l o o
idle_self l None = refl
idle_self l (Some n) = by (nat_lt n l) refl
  where
    by : (b : Bool) → nat_lt n l ≡ b → SeenIdle l (Some n) (Some n)
    by true e = inl (grind (arith, nat_tests), refl)
    by false e = let le : l ≤ n = grind (arith, nat_tests) in inr (le, (n, refl, le))

onward_low : (k n : ℕ) (b : Bool) → n < k → onward (Some n) k b ≡ Some n
onward_low k n true lt = let e : nat_le k n ≡ false = grind (arith, nat_tests) in ap (λ y. Some (grown y n)) e
onward_low k n false lt = refl

grown_least : (b : Bool) (m l : ℕ) → l ≤ m → l ≤ grown b m
grown_least true m l le = omega arith
grown_least false m l le = le

onward_high : (k l m : ℕ) (b : Bool) → l ≤ m → (z : ℕ) × (onward (Some m) k b ≡ Some z) × (l ≤ z)
onward_high k l m true le = (grown (nat_le k m) m, refl, grown_least (nat_le k m) m l le)
onward_high k l m false le = (m, refl, le)

onward_seen : (l k : ℕ) (o own : Option ℕ) (b : Bool) → l ≤ k → SeenIdle l o own → SeenIdle l (onward o k b) own
onward_seen l k o None b le e = ap (λ z. onward z k b) e
onward_seen l k o (Some n) b le (inl (lt, e)) = inl (lt, ap (λ z. onward z k b) e ∙ onward_low k n b (omega arith))
onward_seen l k o (Some n) b le (inr (ge, (m, e, g))) = let y : (z : ℕ) × (onward (Some m) k b ≡ Some z) × (l ≤ z) = onward_high k l m b g in inr (ge, (y.0, ap (λ z. onward z k b) e ∙ y.1, y.2))

idle_within : {O : Type 0} (c q : Place) (T : Tree O) → SeenIdle (length q) (idle_up T (c ++ q)) (idle_up (at T c) q)
idle_within [] q T = idle_self (length q) (idle_up T q)
idle_within (x ∷ c) q T = onward_seen (length q) (length (c ++ q)) (idle_up (λ p. T (x ∷ p)) (c ++ q)) (idle_up (at T (x ∷ c)) q) (nat_eq (depth_of (T [])) 0) (omega (arith, length-append c q)) (idle_within c q (λ p. T (x ∷ p)))

-- no more than there are
onward_most : (k : ℕ) (o : Option ℕ) (b : Bool) → levels o ≤ k → levels (onward o k b) ≤ suc k
onward_most k None b le = omega arith
onward_most k (Some n) false le = omega arith
onward_most k (Some n) true le = by (nat_le k n)
  where
    by : (y : Bool) → grown y n ≤ suc k
    by true = omega arith
    by false = omega arith

start_most : (b : Bool) → levels (idle_at b) ≤ 0
start_most true = omega arith
start_most false = omega arith

pub idle_most : {O : Type 0} (q : Place) (T : Tree O) → levels (idle_up T q) ≤ length q
idle_most [] T = start_most (nat_eq (depth_of (T [])) 0)
idle_most (x ∷ q) T = onward_most (length q) (idle_up (λ p. T (x ∷ p)) q) (nat_eq (depth_of (T [])) 0) (idle_most q (λ p. T (x ∷ p)))

abbrev SeenLevels : ℕ → ℕ → ℕ → Type 0
SeenLevels l n m = ((m < l) × (n ≡ m)) ⊎ ((l ≤ m) × (l ≤ n))

levels_seen : (l : ℕ) (o own : Option ℕ) → SeenIdle l o own → SeenLevels l (levels o) (levels own)
levels_seen l o None e = by (nat_lt 0 l) refl
  where
    by : (b : Bool) → nat_lt 0 l ≡ b → SeenLevels l (levels o) 0
    by true f = inl (grind (arith, nat_tests), ap levels e)
    by false f = inr (grind (arith, nat_tests), grind (arith, nat_tests))
levels_seen l o (Some n) (inl (lt, e)) = inl (lt, ap levels e)
levels_seen l o (Some n) (inr (ge, (m, e, g))) = inr (ge, (let d : levels o ≡ m = ap levels e in omega arith))

-- a caller that is gone in the whole is so in the subtree, and is told the same, as it is seen
abbrev pub SeenGone : Place → Option ℕ → Option ℕ → Type 0
SeenGone q None g = g ≡ None
SeenGone q (Some n) g = (m : ℕ) × (g ≡ Some m) × (seen_reply q (Stop n Gone) ≡ Stop m Gone)

gone_true : (q : Place) (n m : ℕ) → m ≤ length q → SeenLevels (length q) n m → SeenGone q (Some n) (Some m)
gone_true q n m le (inl (lt, e)) =
    let d : nat_lt (length q) n ≡ false = grind (arith, nat_tests) in
    (m, refl, ap (λ y. Stop (nearest y (length q) n) Gone) d ∙ ap (λ y. Stop y Gone) e)
gone_true q n m le (inr (ge, g)) = (m, refl, by (nat_lt (length q) n) refl)
  where
    by : (y : Bool) → nat_lt (length q) n ≡ y → Stop (nearest y (length q) n) Gone ≡ Stop m Gone
    by true e = let same : length q ≡ m = omega arith in ap (λ z. Stop z Gone) same
    by false e = let same : n ≡ m = grind (arith, nat_tests) in ap (λ z. Stop z Gone) same

gone_by_seen : (q : Place) (t : Bool) (n m : ℕ) → m ≤ length q → SeenLevels (length q) n m → SeenGone q (gone_by t n) (gone_by t m)
gone_by_seen q true n m le s = gone_true q n m le s
gone_by_seen q false n m le s = refl

pub gone_within : {O : Type 0} (c q : Place) (T : Tree O) (d : ℕ) → SeenGone q (gone d T (c ++ q)) (gone d (at T c) q)
gone_within c q T d =
    gone_by_seen q (nat_lt (depth_of (T (c ++ q))) d) (levels (idle_up T (c ++ q))) (levels (idle_up (at T c) q)) (idle_most q (at T c))
    (levels_seen (length q) (idle_up T (c ++ q)) (idle_up (at T c) q) (idle_within c q T))

pub gone_from_within : {O : Type 0} (c q : Place) (T : Tree O) (s : Wait) → SeenGone q (gone_from s T (c ++ q)) (gone_from s (at T c) q)
gone_from_within c q T None = refl
gone_from_within c q T (Some s) = gone_within c q T s.2

ended_stopped : (g : Option ℕ) (l n : ℕ) (k : Kind) → ended g (seen_stop l n k) ≡ seen_stop l n k
ended_stopped None l n k = refl
ended_stopped (Some h) l n Gone = refl
ended_stopped (Some h) l n (Full m) = by (nat_lt l n)
  where
    by : (b : Bool) → ended (Some h) (stopped b n m) ≡ stopped b n m
    by true = refl
    by false = refl

ended_seen : (q : Place) (g k : Option ℕ) (r : Reply) → SeenGone q g k → seen_reply q (ended g r) ≡ ended k (seen_reply q r)
ended_seen q None k r e = sym (ap (λ y. ended y (seen_reply q r)) e)
ended_seen q (Some h) k (Completed x) (j, e, f) = f ∙ sym (ap (λ y. ended y (Completed x)) e)
ended_seen q (Some h) k (Stop n m) s = sym (ended_stopped k (length q) n m)
ended_seen q (Some h) k (Exit n) (j, e, f) = sym (ap (λ y. ended y (Exit n)) e)
ended_seen q (Some h) k (Cut x) (j, e, f) = sym (ap (λ y. ended y (Cut Above)) e)

pub carried_within : (c q : List (List ℕ)) (g k : Option ℕ) (h : Height) (down : Path) (r : Reply) (b : Path) → SeenGone q g k → rise_to h q ≡ Some b → seen_reply q (carried g h (c ++ q) down r) ≡ carried k h q down (seen_reply (b ++ down) r)
carried_within c q g k h down r b s e = ended_seen q g k (carried_by r h (c ++ q) down) s ∙ ap (ended k) (carried_by_within c q h down r b e)

-- an ending, as it is seen
abbrev pub seen_end : Place → Ending → Ending
seen_end q None = None
seen_end q (Some r) = Some (seen_reply q r)

stopped_quit : (l n : ℕ) (k : Kind) → IsQuit (seen_stop l n k)
stopped_quit l n Gone = tt
stopped_quit l n (Full m) = by (nat_lt l n)
  where
    by : (b : Bool) → IsQuit (stopped b n m)
    by true = tt
    by false = tt

pub seen_quit : (q : Place) (r : Reply) → IsQuit r → IsQuit (seen_reply q r)
seen_quit q (Completed c) f = f
seen_quit q (Stop n m) f = stopped_quit (length q) n m
seen_quit q (Exit n) f = tt
seen_quit q (Cut c) f = tt

nearest_least : (b : Bool) (l n : ℕ) → nat_lt l n ≡ b → nearest b l n ≤ n
nearest_least true l n e = grind (arith, nat_tests)
nearest_least false l n e = omega arith

near_test : (l n h : ℕ) → nat_lt n h ≡ true → nat_lt (nearest (nat_lt l n) l n) h ≡ true
near_test l n h e = let le : nearest (nat_lt l n) l n ≤ n = nearest_least (nat_lt l n) l n refl in grind (arith, nat_tests)

own_stopped : (h : ℕ) (i : Entry) (l n : ℕ) (k : Kind) → nat_lt n h ≡ true → is_own (Some h) i (Replied (seen_stop l n k)) ≡ true
own_stopped h i l n Gone e = near_test l n h e
own_stopped h i l n (Full m) e = by (nat_lt l n)
  where
    by : (b : Bool) → is_own (Some h) i (Replied (stopped b n m)) ≡ true
    by true = refl
    by false = e

-- what fits a call in the whole fits it in the subtree
own_seen : (q : Place) (h : Height) (i : Entry) (a : Answer) → is_own h i a ≡ true → is_own h i (seen_answer q a) ≡ true
own_seen q (Some h) i (Replied (Completed c)) e = refl
own_seen q (Some h) i (Replied (Stop n m)) e = own_stopped h i (length q) n m e
own_seen q (Some h) i (Replied (Exit n)) e = refl
own_seen q (Some h) i (Replied (Cut c)) e = refl
own_seen q (Some n) i (Heard a) e = e
own_seen q (Some n) i Nobody e = e
own_seen q None i (Replied (Completed c)) e = e
own_seen q None i (Replied (Stop n m)) e = let x : false ≡ true = e in cc
own_seen q None i (Replied (Exit n)) e = refl
own_seen q None i (Replied (Cut c)) e = refl
own_seen q None i (Heard a) e = e
own_seen q None i Nobody e = e

-- and so it does where the caller is gone
gone_stopped : (j h l n : ℕ) (k : Kind) → nat_lt n h ≡ true → ends_gone j (Some h) (seen_stop l n k) ≡ true
gone_stopped j h l n Gone e = near_test l n h e
gone_stopped j h l n (Full m) e = by (nat_lt l n)
  where
    by : (b : Bool) → ends_gone j (Some h) (stopped b n m) ≡ true
    by true = refl
    by false = e

levels_of : (n m : ℕ) → Stop n Gone ≡ Stop m Gone → n ≡ m
levels_of n m e = cc

gone_named : (q : Place) (j m n : ℕ) (k : Kind) → names_gone j k n ≡ true → seen_reply q (Stop j Gone) ≡ Stop m Gone → ends_gone m None (seen_stop (length q) n k) ≡ true
gone_named q j m n (Full y) e f = let x : false ≡ true = e in cc
gone_named q j m n Gone e f =
    let d : n ≡ j = grind (arith, nat_tests) in
    let g : nearest (nat_lt (length q) n) (length q) n ≡ m = levels_of (nearest (nat_lt (length q) n) (length q) n) m (ap (λ y. Stop (nearest (nat_lt (length q) y) (length q) y) Gone) d ∙ f) in
    grind (arith, nat_tests)

told_gone : (q : Place) (j m : ℕ) (h : Height) (r : Reply) → seen_reply q (Stop j Gone) ≡ Stop m Gone → ends_gone j h r ≡ true → ends_gone m h (seen_reply q r) ≡ true
told_gone q j m h (Completed c) f e = let x : false ≡ true = e in cc
told_gone q j m (Some h) (Stop n k) f e = gone_stopped m h (length q) n k e
told_gone q j m None (Stop n k) f e = gone_named q j m n k e f
told_gone q j m h (Exit n) f e = refl
told_gone q j m h (Cut c) f e = refl

told_seen : (q : Place) (g k : Option ℕ) (h : Height) (i : Entry) (a : Answer) → SeenGone q g k → is_told g h i a ≡ true → is_told k h i (seen_answer q a) ≡ true
told_seen q None k h i a s e = ap (λ y. is_told y h i (seen_answer q a)) s ∙ own_seen q h i a e
told_seen q (Some j) k h i (Heard a) s e = let x : false ≡ true = e in cc
told_seen q (Some j) k h i Nobody s e = let x : false ≡ true = e in cc
told_seen q (Some j) k h i (Replied r) (l, s, f) e = ap (λ y. is_told y h i (Replied (seen_reply q r))) s ∙ told_gone q j l h r f e

near_far : (l n h : ℕ) → l < h → nat_lt (nearest (nat_lt l n) l n) h ≡ true
near_far l n h lt = by (nat_lt l n) refl
  where
    by : (b : Bool) → nat_lt l n ≡ b → nat_lt (nearest b l n) h ≡ true
    by true e = grind (arith, nat_tests)
    by false e = grind (arith, nat_tests)

told_stop : (h : ℕ) (q : Place) (i : Entry) (n : ℕ) (k : Kind) → length q < h → is_own (Some h) i (Replied (seen_stop (length q) n k)) ≡ true
told_stop h q i n Gone lt = near_far (length q) n h lt
told_stop h q i n (Full m) lt = by (nat_lt (length q) n) refl
  where
    by : (b : Bool) → nat_lt (length q) n ≡ b → is_own (Some h) i (Replied (stopped b n m)) ≡ true
    by true e = refl
    by false e = grind (arith, nat_tests)

-- whatever a call that leaves the subtree is answered by elsewhere fits it there
own_told : (h : ℕ) (q : Place) (i : Entry) (r : Reply) → rise h q ≡ None → is_own (Some h) i (Replied (seen_reply q r)) ≡ true
own_told h q i (Completed c) e = refl
own_told h q i (Stop n m) e = told_stop h q i n m (rise_far q h e)
own_told h q i (Exit n) e = refl
own_told h q i (Cut c) e = refl

far_stop : (h : ℕ) (q : Place) (j n : ℕ) (k : Kind) → length q < h → ends_gone j (Some h) (seen_stop (length q) n k) ≡ true
far_stop h q j n Gone lt = near_far (length q) n h lt
far_stop h q j n (Full m) lt = by (nat_lt (length q) n) refl
  where
    by : (b : Bool) → nat_lt (length q) n ≡ b → ends_gone j (Some h) (stopped b n m) ≡ true
    by true e = refl
    by false e = grind (arith, nat_tests)

pub told_own : (h : ℕ) (q : Place) (i : Entry) (g k : Option ℕ) (r : Reply) → SeenGone q g k → rise h q ≡ None → is_told k (Some h) i (Replied (seen_reply q (ended g r))) ≡ true
told_own h q i None k r s e = ap (λ y. is_told y (Some h) i (Replied (seen_reply q r))) s ∙ own_told h q i r e
told_own h q i (Some j) k (Completed c) (l, s, f) e = ap (λ y. is_told y (Some h) i (Replied (seen_reply q (Stop j Gone)))) s ∙ far_stop h q l j Gone (rise_far q h e)
told_own h q i (Some j) k (Stop n m) (l, s, f) e = ap (λ y. is_told y (Some h) i (Replied (seen_reply q (Stop n m)))) s ∙ far_stop h q l n m (rise_far q h e)
told_own h q i (Some j) k (Exit n) (l, s, f) e = ap (λ y. is_told y (Some h) i (Replied (Exit n))) s
told_own h q i (Some j) k (Cut c) (l, s, f) e = ap (λ y. is_told y (Some h) i (Replied (Cut Above))) s

pub answers_seen : (q : Place) (g k : Option ℕ) (s : Wait) (a : Answer) → SeenGone q g k → answers_call g s a ≡ true → answers_call k s (seen_answer q a) ≡ true
answers_seen q g k None a f e = let x : false ≡ true = e in cc
answers_seen q g k (Some c) a f e = told_seen q g k c.0 c.1 a f e

pub is_exit_self : (n : ℤ) → is_exit n (Replied (Exit n)) ≡ true
is_exit_self n = grind (arith, Decides-int_eq n n)
