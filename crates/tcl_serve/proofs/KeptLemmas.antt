-- What is kept under numbers.
use Rattle.std.proofs.Common.{◌≡◌, ℕ, ◌+◌, Bool, true, false, Option, Some, None, IfNone, Result, Ok, Err, OnErr, cond, eqb, ne_eqb, nat_lt, refl, sym, ap, subst}
use Rattle.std.specs.BTreeMap.{BTreeMap, UpdatesBy, WritesThrough, get, is_at}
use Rattle.std.specs.Ordering.{is_eq, nat_cmp}
use Rattle.std.specs.declared.cmp.Ordering.TheVariants.{Less, Equal, Greater}
use Rattle.std.specs.Prelude.{IsSome}
use Rattle.tcl_serve.specs.Numbering.{Adds, IsKept, Puts, kept_at}
use Rattle.tcl_serve.specs.declared.numbered.Numbered.{Numbered}

pub on_err : {A E : Type 0} (r : Result A E) (P : Type 0) → P → OnErr r P
on_err (Ok x) P p = tt
on_err (Err e) P p = p

pub if_none_more : {A : Type 0} (o : Option A) (P Q : Type 0) → (P → Q) → IfNone o P → IfNone o Q
if_none_more (Some x) P Q f h = tt
if_none_more None P Q f h = f h

not_at : (k q : ℕ) → (q ≡ k → ⊥) → is_at (nat_cmp k) q ≡ false
not_at k q ne = by_lt (nat_lt k q)
  where
    by_lt : (b : Bool) → is_eq (cond b Less (cond (eqb k q) Equal Greater)) ≡ false
    by_lt true = refl
    by_lt false = ap (λ b. is_eq (cond b Equal Greater)) (ne_eqb k q (λ e. ne (sym e)))

module _ {T : Type 0} where
  pub kept : (o z : Numbered T) → z.last ≡ o.last → z.held ≡ o.held → IsKept o z
  kept o z last held = record { last = last; same = λ k. ap (λ (m : BTreeMap ℕ T). get nat_cmp m k) held }

  pub puts_of : (o z : Numbered T) (k : ℕ) (w : Option T) → z.last ≡ o.last → UpdatesBy nat_cmp (nat_cmp k) o.held z.held w → Puts o k w z
  puts_of o z k w last u = record { last = last; there = u.1; elsewhere = λ q ne. u.2 q (not_at k q ne) }

  pub adds_of : (o z : Numbered T) (k : ℕ) (t : T) → k ≡ o.last + 1 → z.last ≡ k → UpdatesBy nat_cmp (nat_cmp k) o.held z.held (Some t) → Adds o k t z
  adds_of o z k t next last u = record { next = next; last = last; there = u.1; elsewhere = λ q ne. u.2 q (not_at k q ne) }

  some_is : (x : Option T) (t : T) → x ≡ Some t → IsSome x
  some_is x t e = subst (λ y. IsSome y) (sym e) refl

  -- through what is lent of a map
  pub puts_through : (o z : Numbered T) (k : ℕ) (t w : T) → z.last ≡ o.last → kept_at o k ≡ Some t → WritesThrough nat_cmp (nat_cmp k) o.held w z.held → Puts o k (Some w) z
  puts_through o z k t w last is u = puts_of o z k (Some w) last (u.3 (some_is _ t is))
