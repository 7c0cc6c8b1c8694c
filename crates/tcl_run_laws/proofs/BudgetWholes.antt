-- What the laws of the core say of a whole evaluation.
use Rattle.std.proofs.Common.{◌≡◌, ◌∙◌, ◌⊎◌, inl, inr, ℕ, ◌≤◌, ◌+◌, Bool, true, false, ◌&&◌, List, [], ◌∷◌, ◌++◌, Option, Some, None, refl, sym, ap, subst, arith}
use Rattle.tcl_core.specs.Entries.{Answer}
use Rattle.tcl_core.specs.Entries.Entry.{Eval}
use Rattle.tcl_core.specs.Laws.{AsLimited, IsHeld, IsSpared, IsSteady, IsUpright, KeepsTop, Lasts, Spares, depth_left, is_spared, none_there, spares}
use Rattle.tcl_core.specs.Lives.{End, Lives, Whole, alone, comes, count_at, idle, limit_at, limited, never, unlimited}
use Rattle.tcl_core.specs.Paths.{Path, Place, Text}
use Rattle.tcl_core.specs.Programs.{Table}
use Rattle.tcl_core.specs.Programs.Prog.{wait}
use Rattle.tcl_core.specs.Runs.{World}
use Rattle.tcl_core.specs.Tables.{Keeps_to, unlimiting}
use Rattle.tcl_core.specs.Trees.{Event, Node, Tree, What, depth_of, paid, seen_what}
use Rattle.tcl_core.specs.Trees.Move.{Enter}
use Rattle.tcl_core.specs.Trees.What.{Charged, Dropped}
use Rattle.tcl_core.specs.Views.{steps_of, view}
use Rattle.tcl_core.proofs.Counts.{bounded, counting, limiting, standing}
use Rattle.tcl_core.proofs.Depths.{steady}
use Rattle.tcl_core.proofs.Reacting.{life_of}
use Rattle.tcl_core.proofs.Safeguards.{limits_kept}
use Rattle.tcl_core.proofs.Stops.{stopping}
use Rattle.tcl_run_laws.specs.Budgets.{CountsRise, CountsStayWithin, DepthsComeBack, DepthsStay, IsNested, IsOrderly, LimitsStay, StopsAreObeyed}
use Rattle.tcl_run_laws.proofs.Orders.{nested_at_rest, nested_relimited, orderly_relimited, root_limit, same_depth, still_there, upright_of}
use Rattle.tcl_run_laws.proofs.Spared.{comes_keep, root_spared}

-- what is left of a depth is all of it, or nothing; and nothing of none
same_or_none : (b : Bool) (d v : ℕ) → v ≡ depth_left b d → (v ≡ d) ⊎ (v ≡ 0)
same_or_none true d v e = inl e
same_or_none false d v e = inr e

none_left : (b : Bool) (d v : ℕ) → v ≡ depth_left b d → d ≡ 0 → v ≡ 0
none_left true d v e f = e ∙ f
none_left false d v e f = e

module _ {O : Type 0} where
  -- who isn't dropped by these isn't by the first of them
  spared_so : (q p : Place) (x : What O) → Spares q p x → spares q p x ≡ true
  spared_so q p Dropped f = ap none_there f
  spared_so q p x f = refl

  spared_first : (q : Place) (a b : List (Event O)) → IsSpared q (a ++ b) → is_spared q a ≡ true
  spared_first q [] b f = refl
  spared_first q (ev ∷ a) b (f, g) = ap (λ y. y && is_spared q a) (spared_so q ev.place ev.what f) ∙ spared_first q a b g

  paid_seen : (q : Place) (x : What O) (k : ℕ) → paid (seen_what q x) k ≡ paid x k
  paid_seen q Charged k = refl
  paid_seen q x k = refl

  -- the whole tree sees all steps
  steps_seen : (τ : List (Event O)) → steps_of (view [] τ) ≡ steps_of τ
  steps_seen [] = refl
  steps_seen (ev ∷ τ) = paid_seen ev.place ev.what (steps_of (view [] τ)) ∙ ap (paid ev.what) (steps_seen τ)

module _ {O I : Type 0} (prog : Table O I) (T V : Tree O) (p : Path) (s : Text) (n : ℕ) (B : List Answer) (e : End) (outs : List (Event O)) (w : Whole prog T p s n B e outs V) where
  -- the world in which it begins, and its life
  abbrev begin : World O
  begin = alone (limited n T) (Enter p (Eval s) ∷ comes B) n w.tape

  life : Lives prog begin w.last None
  life = life_of prog begin w.last p (Eval s) w.reply w.run w.all_read w.all_done

  abbrev raised : Option ℕ
  raised = Some (count_at (T []) + n)

  left_at : (q : Place) → V q ≡ unlimited T w.last.tree q
  left_at q = ap (λ (U : Tree O). U q) w.left

  pub steps : steps_of w.tape ≤ n
  steps =
      let b = bounded prog begin w.last [] (wait idle never) None n life refl w.all_done in
      let sum : b.0 + steps_of w.tape ≡ n = b.2 in
      omega arith

  held : (c : Place) → IsHeld c begin.moves
  held [] = comes_keep O B
  held (x ∷ c) = tt

  lasts : (c : Place) (m : Node O) → limited n T c ≡ Some m → IsSpared c w.tape → Lasts c begin
  lasts c m there spared = record { node = m; stands = there; spared = spared; held = held c }

  pub counts : CountsRise T w.tape V
  counts c m there spared =
      let a : (k : Node O) × (limited n T c ≡ Some k) × (k.count ≡ m.count) = still_there raised T c m there in
      let h : (k : Node O) × (w.last.tree c ≡ Some k) × (k.count + steps_of (view c w.last.tape) ≡ a.0.count + steps_of (view c w.tape)) =
      counting prog c [] begin (wait idle never) w.last None a.0 life (lasts c a.0 a.1 spared) a.1 in
      let b : (k : Node O) × (unlimited T w.last.tree c ≡ Some k) × (k.count ≡ h.0.count) = still_there (limit_at (T [])) w.last.tree c h.0 h.1 in
      let none : steps_of (view c w.last.tape) ≡ 0 = ap (λ τ. steps_of (view c τ)) w.all_done in
      let first : a.0.count ≡ m.count = a.2 in
      let last : b.0.count ≡ h.0.count = b.2 in
      let sum : h.0.count + steps_of (view c w.last.tape) ≡ a.0.count + steps_of (view c w.tape) = h.2 in
      (b.0, left_at c ∙ b.1, omega arith)

  spared_root : IsSpared [] w.tape
  spared_root = root_spared prog begin [] (wait idle never) w.last None life (held []) w.all_done

  pub within : CountsStayWithin T w.tape V
  within [] m l b below there spared at_limit low lb mb = absurd (below refl)
  within (x ∷ c) m l b below there spared at_limit low lb mb =
      let h = limiting prog (x ∷ c) [] begin (wait idle never) w.last None m l b life (lasts (x ∷ c) m there spared) low there at_limit lb mb in
      record { node = h.0; stands = left_at (x ∷ c) ∙ h.2; limit = (h.1, h.3, h.4); count = h.5 }

  pub stops : StopsAreObeyed w.tape
  stops c = stopping prog c [] begin (wait idle never) w.last None life w.all_done

  module _ (fine : IsOrderly T) where
    orderly : IsOrderly (limited n T)
    orderly = orderly_relimited raised T fine

    pub root_count : count_at (V []) ≡ count_at (T []) + steps_of w.tape
    root_count =
        let h = counts [] fine.top.0 fine.top.1 spared_root in
        let a : count_at (V []) ≡ h.0.count = ap count_at h.1 in
        let b : count_at (T []) ≡ fine.top.0.count = ap count_at fine.top.1 in
        let seen : steps_of (view [] w.tape) ≡ steps_of w.tape = steps_seen w.tape in
        let sum : h.0.count ≡ fine.top.0.count + steps_of (view [] w.tape) = h.2 in
        omega arith

    pub own_limit : limit_at (V []) ≡ limit_at (T [])
    own_limit =
        let a : (k : Node O) × (limited n T [] ≡ Some k) × (k.count ≡ fine.top.0.count) = still_there raised T [] fine.top.0 fine.top.1 in
        let h = counting prog [] [] begin (wait idle never) w.last None a.0 life (lasts [] a.0 a.1 spared_root) a.1 in
        ap limit_at (left_at []) ∙ root_limit (limit_at (T [])) w.last.tree h.0 h.1

    still : IsNested T → IsSteady w.run.entered w.run.left (Some w.reply)
    still nested =
        let entered : KeepsTop w.run.entered.moves = subst KeepsTop w.run.entry.moves (held []) in
        steady prog w.run.entered w.run.left p (prog.entry (Eval s)) (Some w.reply) w.run.run
        (subst IsUpright (sym w.run.entry.tree) (upright_of (limited n T) orderly (nested_relimited raised T nested))) entered

    left_depths : (nested : IsNested T) (q : Place) → depth_of (V q) ≡ depth_left (is_spared q (still nested).made) (depth_of (T q))
    left_depths nested q =
        ap depth_of (left_at q)
        ∙ same_depth (limit_at (T [])) w.last.tree q
        ∙ ap (λ (U : Tree O). depth_of (U q)) w.run.leaving.tree
        ∙ (still nested).depths w.reply refl q
        ∙ ap (depth_left (is_spared q (still nested).made)) (ap (λ (U : Tree O). depth_of (U q)) w.run.entry.tree ∙ same_depth raised T q)

    pub spared_depths : DepthsStay T w.tape V
    spared_depths nested q f =
        let after : IsSpared q w.run.entered.tape = (subst (IsSpared q) w.run.entry.tape f).1 in
        let within : is_spared q (still nested).made ≡ true = spared_first q (still nested).made w.run.left.tape (subst (IsSpared q) (still nested).happened after) in
        left_depths nested q ∙ ap (λ b. depth_left b (depth_of (T q))) within

    pub depths : DepthsComeBack T V
    depths = record {
      same = λ nested q. same_or_none (is_spared q (still nested).made) (depth_of (T q)) (depth_of (V q)) (left_depths nested q);
      rest = λ f q. (let nested = nested_at_rest T f in none_left (is_spared q (still nested).made) (depth_of (T q)) (depth_of (V q)) (left_depths nested q) (f q));
    }

    pub limits : (modest : I → Bool) → ((limited : Place → Bool) → Keeps_to (unlimiting modest limited) prog) → LimitsStay T w.tape V
    limits modest all [] q below safe spared free = absurd (below refl)
    limits modest all (x ∷ c) q below safe spared free =
        let h = limits_kept modest prog all (x ∷ c) begin w.last p (Eval s) w.reply w.run w.all_read w.all_done (lasts (x ∷ c) safe.0 safe.1 spared) orderly.safe safe q free in
        let there : V ((x ∷ c) ++ q) ≡ w.last.tree ((x ∷ c) ++ q) = left_at ((x ∷ c) ++ q) in (
          subst (λ (o : Option (Node O)). AsLimited (T ((x ∷ c) ++ q)) o) (sym there) h.0,
          λ spared_below m was.
              let stands = standing prog ((x ∷ c) ++ q) begin [] (wait idle never) w.last None life (lasts ((x ∷ c) ++ q) m was spared_below) w.all_done in
              let k = h.1 m was stands in
              (k.0, there ∙ k.1, k.2, k.3),
        )
