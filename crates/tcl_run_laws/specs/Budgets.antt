-- What an evaluation counts, and which limits it keeps. It takes the tree from T to V, and τ is all
-- that happens in it.
use Rattle.std.specs.Prelude.{◌≡◌, ◌≢◌, ◌⊎◌, ℕ, ◌≤◌, ◌+◌, List, [], ◌++◌, Option, Some}
use Rattle.tcl_core.specs.Laws.{AsLimited, IsLowering, IsSafeAt, IsSafeBelow, IsSpared, Obeys}
use Rattle.tcl_core.specs.Laws.{Unasked}
use Rattle.tcl_core.specs.Lives.{count_at, limit_at}
use Rattle.tcl_core.specs.Paths.{Place, strip}
use Rattle.tcl_core.specs.Trees.{Event, Node, Tree, depth_of}
use Rattle.tcl_core.specs.Views.{moves_of, steps_of, view}

module _ {O : Type 0} where
  -- ## The tree before it

  -- The top stands; above each that stands all stand; and below a safe one all are safe.
  pub record IsOrderly (T : Tree O) : Type 0 where
    pub top : (n : Node O) × (T [] ≡ Some n)
    pub closed : (p q z : Place) (n : Node O) → strip p q ≡ Some z → T q ≡ Some n → (m : Node O) ×
        (T p ≡ Some m)
    pub safe : IsSafeBelow T

  -- nobody is in use more deeply than one above it
  abbrev pub IsNested : Tree O → Type 0
  IsNested T = (p q z : Place) → strip p q ≡ Some z → depth_of (T q) ≤ depth_of (T p)

  -- nobody is in use at all
  abbrev pub IsAtRest : Tree O → Type 0
  IsAtRest T = (q : Place) → depth_of (T q) ≡ 0

  -- ## Counts

  -- An interpreter that stands at first and isn't dropped meanwhile stands afterwards, and its
  -- count has risen by just the steps that were made in its subtree: in interpreters that were made
  -- and dropped meanwhile too.
  abbrev pub CountsRise : Tree O → List (Event O) → Tree O → Type 0
  CountsRise T τ V = (c : Place) (n : Node O) → T c ≡ Some n → IsSpared c τ → (m : Node O) ×
      (V c ≡ Some m) × (m.count ≡ n.count + steps_of (view c τ))

  -- an interpreter stands, whose limit of steps is at most l, and whose count is at most b
  pub record IsWithin (l b : ℕ) (o : Option (Node O)) : Type 0 where
    pub node : Node O
    pub stands : o ≡ Some node
    pub limit : (k : ℕ) × (node.limit ≡ Some k) × (k ≤ l)
    pub count : node.count ≤ b

  -- One below the root, with a limit of steps that nothing raises or takes away, is counted at most
  -- to the greater of the limit and the count before: to each number that both are at most.
  abbrev pub CountsStayWithin : Tree O → List (Event O) → Tree O → Type 0
  CountsStayWithin T τ V = (c : Place) (n : Node O) (l b : ℕ) → c ≢ [] → T c ≡ Some n →
      IsSpared c τ → n.limit ≡ Some l → IsLowering l c τ → l ≤ b → n.count ≤ b → IsWithin l b (V c)

  -- Wherever a stop that names an interpreter or one above it is raised in its subtree, or comes
  -- into it as an answer, no step is made there before the stop has left it. So no script catches
  -- one.
  abbrev pub StopsAreObeyed : List (Event O) → Type 0
  StopsAreObeyed τ = (c : Place) → Obeys c τ

  -- ## Limits

  -- an interpreter that stands has the limits that it had
  abbrev pub KeepsLimits : Option (Node O) → Option (Node O) → Type 0
  KeepsLimits was is = (n : Node O) → was ≡ Some n → (m : Node O) × (is ≡ Some m) ×
      (m.limit ≡ n.limit) × (m.depth_limit ≡ n.depth_limit)

  -- In the subtree of a safe interpreter below the root, which stands at first and isn't dropped
  -- meanwhile, no script changes a limit. The one at q below it, or itself, that no entry into the
  -- subtree asks for a limit has the limits that it had, or is new and has those of a new one: no
  -- limit of steps, and 200 levels. And it has those that it had where it stood at first and isn't
  -- dropped either.
  abbrev pub LimitsStay : Tree O → List (Event O) → Tree O → Type 0
  LimitsStay T τ V = (c q : Place) → c ≢ [] → IsSafeAt T c → IsSpared c τ →
      Unasked q (moves_of (view c τ)) →
      AsLimited (T (c ++ q)) (V (c ++ q)) ×
      (IsSpared (c ++ q) τ → KeepsLimits (T (c ++ q)) (V (c ++ q)))

  -- ## Depths

  -- Where nobody was in use more deeply than one above it, each that isn't dropped meanwhile, nor
  -- one above it, is in use afterwards as deeply as before.
  abbrev pub DepthsStay : Tree O → List (Event O) → Tree O → Type 0
  DepthsStay T τ V = IsNested T → (q : Place) → IsSpared q τ → depth_of (V q) ≡ depth_of (T q)

  -- Of the trees alone: each is in use afterwards as deeply as before, or not at all, as where it
  -- or one above it was dropped. And so nobody is in use where nobody was.
  pub record DepthsComeBack (T V : Tree O) : Type 0 where
    pub same : IsNested T → (q : Place) → (depth_of (V q) ≡ depth_of (T q)) ⊎ (depth_of (V q) ≡ 0)
    pub rest : IsAtRest T → IsAtRest V

  -- ## All of it

  -- All that is promised of the counts, limits and depths: the evaluation makes at most n counted
  -- steps, all of which the root counts, and the root has its own limit of steps again; and so on,
  -- as it is said above.
  pub record KeepsBudget (T : Tree O) (n : ℕ) (τ : List (Event O)) (V : Tree O) : Type 0 where
    pub steps : steps_of τ ≤ n
    pub root : count_at (V []) ≡ count_at (T []) + steps_of τ
    pub root_limit : limit_at (V []) ≡ limit_at (T [])
    pub counts : CountsRise T τ V
    pub within : CountsStayWithin T τ V
    pub stops : StopsAreObeyed τ
    pub limits : LimitsStay T τ V
    pub spared_depths : DepthsStay T τ V
    pub depths : DepthsComeBack T V
