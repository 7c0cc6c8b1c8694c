-- The order of texts.
use Rattle.std.proofs.Common.{◌≡◌, ◌↔◌, ℕ, Bool, true, false, cond, List, [], ◌∷◌, refl, sym, ◌∙◌, ap}
use Rattle.std.specs.Prelude.{◌==◌, nat_lt}
use Rattle.std.specs.declared.cmp.Ordering.{Ordering}
use Rattle.std.specs.declared.cmp.Ordering.TheVariants.{Less, Equal, Greater}
use Rattle.std.proofs.lemmas.Bool.Decides.{Decides-eqb}
use Rattle.std.specs.Ordering.{is_eq}
use Rattle.std.specs.Str.{chars, IsUtf8, bytes_eq}
use Rattle.std.specs.Cmp.Lexicographic.{bytes_decides}
use Rattle.std.proofs.lemmas.Bool.{false≢true}
use Rattle.std.proofs.lemmas.Str.{encodes-chars}
use Rattle.tcl_glob.specs.Patterns.{letters}
use Rattle.tcl_characters.specs.Texts.{text_of}
use Rattle.tcl_characters.specs.Order.{order}

pub order_self : (cs : List ℕ) → order cs cs ≡ Equal
order_self [] = refl
order_self (c ∷ cs) = ap (λ t. cond t (order cs cs) (cond (nat_lt c c) Less Greater)) ((Decides-eqb c c).1 refl) ∙ order_self cs

equal_by : (cs ds : List ℕ) (c d : ℕ) (t : Bool) → (c == d) ≡ t → (less : Bool) → cond t (order cs ds) (cond less Less Greater) ≡ Equal → (order cs ds ≡ Equal → cs ≡ ds) → c ∷ cs ≡ d ∷ ds
equal_by cs ds c d true e less h rest = let same : c ≡ d = (Decides-eqb c d).0 e in let tail : cs ≡ ds = rest h in cc
equal_by cs ds c d false e true h rest = cc
equal_by cs ds c d false e false h rest = cc

pub order_equal : (cs ds : List ℕ) → order cs ds ≡ Equal → cs ≡ ds
order_equal [] [] h = refl
order_equal [] (d ∷ ds) h = cc
order_equal (c ∷ cs) [] h = cc
order_equal (c ∷ cs) (d ∷ ds) h = equal_by cs ds c d (c == d) refl (nat_lt c d) h (order_equal cs ds)

-- what the orders that are Equal tell
pub equal_ordering : (cs ds : List ℕ) (same : Bool) → same ≡ is_eq (order cs ds) → (same ≡ true) ↔ (cs ≡ ds)
equal_ordering cs ds same e =
    (λ h. order_equal cs ds (is_eq_true (order cs ds) (sym e ∙ h)), λ h. e ∙ ap is_eq (ap (order cs) (sym h) ∙ order_self cs))
  where
    is_eq_true : (o : Ordering) → is_eq o ≡ true → o ≡ Equal
    is_eq_true Less h = cc
    is_eq_true Equal h = refl
    is_eq_true Greater h = cc

-- texts with the same characters
pub same_texts : (a b : List ℕ) (nocase same : Bool) → IsUtf8 a → IsUtf8 b → nocase ≡ false → same ≡ bytes_eq a b → (same ≡ true) ↔ (letters nocase a ≡ letters nocase b)
same_texts a b true same u v n e = absurd (false≢true (sym n))
same_texts a b false same u v n e =
    (λ h. ap chars ((bytes_decides a b).0 (sym e ∙ h)), λ h. e ∙ (bytes_decides a b).1 (sym (encodes-chars a u) ∙ ap text_of h ∙ encodes-chars b v))

pub equal_letters : (a b : List ℕ) (nocase same : Bool) → nocase ≡ true → same ≡ is_eq (order (letters true a) (letters true b)) → (same ≡ true) ↔ (letters nocase a ≡ letters nocase b)
equal_letters a b true same n e = equal_ordering (letters true a) (letters true b) same e
equal_letters a b false same n e = absurd (false≢true n)
