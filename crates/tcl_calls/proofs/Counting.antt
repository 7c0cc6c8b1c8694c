-- The first free number of a child is found within as many turns as there are commands.
use Rattle.std.proofs.Common.{◌≡◌, ◌⊎◌, inl, inr, ℕ, zero, suc, ◌+◌, ◌<◌, ◌≤◌, ◌^◌, Bool, true, false, cond, [], ◌∷◌, length, Option, Some, refl, sym, ◌∙◌, ap, arith}
use Rattle.std.specs.Prelude.{is_some, ◌||◌, IsSome}
use Rattle.std.specs.Map.{lookup}
use Rattle.std.specs.Str.{bytes_eq}
use Rattle.std.proofs.lemmas.Fmt.{decimal_injective}
use Rattle.std.proofs.lemmas.Slice.Eq.{bytes_eq-Decides}
use Rattle.tcl_core.specs.Paths.{Text}
use Rattle.tcl_language.specs.Instructions.{either}
use Rattle.tcl_language.specs.Interpreters.{numbered, least_free, free_name}
use Rattle.tcl_tree.specs.Changes.{IsFirstFree}
use Rattle.tcl_tree.specs.Own.{Own, CommandMap}
use Rattle.tcl_interpreter.specs.declared.command.Command.{Command}

abbrev bit_of : Bool → ℕ
bit_of true = 1
bit_of false = 0

-- how many numbers below n pass a test
abbrev count : (ℕ → Bool) → ℕ → ℕ
count b zero = 0
count b (suc n) = bit_of (b n) + count b n

at_most_both : (a b c : Bool) → c ≡ (a || b) → bit_of c ≤ bit_of a + bit_of b
at_most_both true b true e = omega arith
at_most_both true b false e = let x : false ≡ true = e in absurd cc
at_most_both false b c e = let same : bit_of c ≡ bit_of b = ap bit_of e in omega arith

count_both : (a b c : ℕ → Bool) → ((m : ℕ) → c m ≡ (a m || b m)) → (n : ℕ) → count c n ≤ count a n + count b n
count_both a b c e zero = omega arith
count_both a b c e (suc n) = let h = count_both a b c e n in let k = at_most_both (a n) (b n) (c n) (e n) in omega arith

count_none : (b : ℕ → Bool) (n : ℕ) → ((m : ℕ) → m < n → b m ≡ false) → count b n ≡ 0
count_none b zero h = refl
count_none b (suc n) h =
    let here : bit_of (b n) ≡ 0 = ap bit_of (h n (omega arith)) in
    let rest = count_none b n (λ m k. h m (omega arith)) in
    omega arith

count_all : (b : ℕ → Bool) (n : ℕ) → ((m : ℕ) → m < n → b m ≡ true) → count b n ≡ n
count_all b zero h = refl
count_all b (suc n) h =
    let here : bit_of (b n) ≡ 1 = ap bit_of (h n (omega arith)) in
    let rest = count_all b n (λ m k. h m (omega arith)) in
    omega arith

count_one : (b : ℕ → Bool) (n : ℕ) → ((m k : ℕ) → m < n → k < n → b m ≡ true → b k ≡ true → m ≡ k) → count b n ≤ 1
count_one b zero h = omega arith
count_one b (suc n) h = by (b n) refl (count_one b n (λ m k f g. h m k (omega arith) (omega arith)))
  where
    other : (m : ℕ) → b n ≡ true → m < n → (d : Bool) → b m ≡ d → b m ≡ false
    other m e k true f = let same = h m n (omega arith) (omega arith) f e in absurd (omega arith)
    other m e k false f = f

    by : (d : Bool) → b n ≡ d → count b n ≤ 1 → bit_of (b n) + count b n ≤ 1
    by true e before =
        let here : bit_of (b n) ≡ 1 = ap bit_of e in
        let rest = count_none b n (λ m k. other m e k (b m) refl) in
        omega arith
    by false e before = let here : bit_of (b n) ≡ 0 = ap bit_of e in omega arith

abbrev taken : CommandMap → ℕ → Bool
taken es n = is_some (lookup (bytes_eq (numbered n)) es)

taken_first : (b : Bool) (c : Command) (o : Option Command) → is_some (cond b (Some c) o) ≡ (b || is_some o)
taken_first true c o = refl
taken_first false c o = refl

same_number : (x : Text) (m k : ℕ) → m < 2 ^ 64 → k < 2 ^ 64 → bytes_eq (numbered m) x ≡ true → bytes_eq (numbered k) x ≡ true → m ≡ k
same_number x m k small few e f =
    let same : numbered m ≡ numbered k = (bytes_eq-Decides (numbered m) x).0 e ∙ sym ((bytes_eq-Decides (numbered k) x).0 f) in
    decimal_injective m k small few cc

count_taken : (es : CommandMap) (n : ℕ) → n ≤ 2 ^ 64 → count (taken es) n ≤ length es
count_taken [] n h = let none = count_none (taken []) n (λ m k. refl) in omega arith
count_taken (e ∷ es) n h =
    let both = count_both (λ m. bytes_eq (numbered m) e.0) (taken es) (taken (e ∷ es)) (λ m. taken_first (bytes_eq (numbered m) e.0) e.1 (lookup (bytes_eq (numbered m)) es)) n in
    let one = count_one (λ m. bytes_eq (numbered m) e.0) n (λ m k f g. same_number e.0 m k (omega arith) (omega arith)) in
    let rest = count_taken es n h in
    omega arith

some_true : {A : Type 0} (o : Option A) → IsSome o → is_some o ≡ true
some_true o h = h

-- the first free number is at most as great as the number of commands
few_taken : (es : CommandMap) (n : ℕ) → length es < 2 ^ 63 → ((m : ℕ) → m < n → taken es m ≡ true) → n ≤ length es
few_taken es n small all = by (cases n (length es))
  where
    cases : (a b : ℕ) → (a ≤ b) ⊎ (b < a)
    cases a b = grind arith

    by : (n ≤ length es) ⊎ (length es < n) → n ≤ length es
    by (inl h) = h
    by (inr h) =
        let most = count_taken es (suc (length es)) (omega arith) in
        let same = count_all (taken es) (suc (length es)) (λ m k. all m (omega arith)) in
        absurd (omega arith)

least_is : (es : CommandMap) (turns n first : ℕ) → n ≤ first → first ≤ n + turns → ((m : ℕ) → m < first → taken es m ≡ true) → taken es first ≡ false → least_free turns n es ≡ first
least_is es zero n first h k all free = omega arith
least_is es (suc turns) n first h k all free = by (cases n first) (λ less. least_is es turns (suc n) first (omega arith) (omega arith) all free)
  where
    cases : (a b : ℕ) → (a < b) ⊎ (b ≤ a)
    cases a b = grind arith

    by : (n < first) ⊎ (first ≤ n) → (n < first → least_free turns (suc n) es ≡ first) → either (taken es n) (least_free turns (suc n) es) n ≡ first
    by (inl less) later = ap (λ b. either b (least_free turns (suc n) es) n) (all n less) ∙ later less
    by (inr most) later =
        let same : first ≡ n = omega arith in
        ap (λ b. either b (least_free turns (suc n) es) n) (ap (taken es) (sym same) ∙ free) ∙ sym same

-- a name that is the first free one is the one that a child without a name gets
pub first_is_free_name : (own : Own) (name : Text) → length own.commands < 2 ^ 63 → IsFirstFree own.commands name → name ≡ free_name own
first_is_free_name own name small first =
    let all : (m : ℕ) → m < first.number → taken own.commands m ≡ true = λ m k. some_true (lookup (bytes_eq (numbered m)) own.commands) (first.taken m k) in
    let free : taken own.commands first.number ≡ false = ap (λ (x : Text). is_some (lookup (bytes_eq x) own.commands)) (sym first.is) ∙ ap is_some first.free in
    let most = few_taken own.commands first.number small all in
    first.is ∙ ap numbered (sym (least_is own.commands (length own.commands) 0 first.number (omega arith) (omega arith) all free))
