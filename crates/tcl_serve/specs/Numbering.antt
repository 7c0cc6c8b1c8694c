-- What is kept under numbers.
use Rattle.std.specs.BTreeMap.{get}
use Rattle.std.specs.Ordering.{nat_cmp}
use Rattle.std.specs.Prelude.{◌≡◌, ℕ, ◌+◌, Option, Some}
use Rattle.tcl_serve.specs.declared.numbered.Numbered.{Numbered}

-- what is kept under a number
abbrev pub kept_at : {T : Type 0} → Numbered T → ℕ → Option T
kept_at n k = get nat_cmp n.held k

-- Under each number is kept what was, and no further one was given.
pub record IsKept {T : Type 0} (o z : Numbered T) : Type 0 where
  pub last : z.last ≡ o.last
  pub same : (k : ℕ) → kept_at z k ≡ kept_at o k

-- Under one number this is kept, and under each other one what was; no further number was given.
pub record Puts {T : Type 0} (o : Numbered T) (k : ℕ) (w : Option T) (z : Numbered T) : Type 0 where
  pub last : z.last ≡ o.last
  pub there : kept_at z k ≡ w
  pub elsewhere : (q : ℕ) → ¬ (q ≡ k) → kept_at z q ≡ kept_at o q

-- The next number is given to a thing.
pub record Adds {T : Type 0} (o : Numbered T) (k : ℕ) (thing : T) (z : Numbered T) : Type 0 where
  pub next : k ≡ o.last + 1
  pub last : z.last ≡ k
  pub there : kept_at z k ≡ Some thing
  pub elsewhere : (q : ℕ) → ¬ (q ≡ k) → kept_at z q ≡ kept_at o q
