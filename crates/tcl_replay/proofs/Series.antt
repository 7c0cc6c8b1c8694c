-- Steps that are made in many evaluations.
use Rattle.std.proofs.Common.{◌≡◌, ◌∙◌, ℕ, ◌≤◌, ◌+◌, ◌⊎◌, Some, inl, inr, sym, ap, arith}
use Rattle.tcl_core.specs.Lives.{count_at, limit_at}
use Rattle.tcl_core.specs.Paths.{Path}
use Rattle.tcl_host.specs.declared.reply.HostReply.{HostReply}
use Rattle.tcl_host.specs.declared.request.Request.{Request}
use Rattle.tcl_isolation.specs.Laws.{IsWithin}
use Rattle.tcl_isolation.specs.Scripts as laws
use Rattle.tcl_isolation.specs.Visits.{IsBelowTheTop}
use Rattle.tcl_replay.specs.Series.{InTurn, Run}
use Rattle.tcl_replay.specs.Series.InTurn.{none, changed, ran}
use Rattle.tcl_replay.proofs.Recorded as recorded
use Rattle.tcl_run.specs.Outsides.{hosted}
use Rattle.tcl_tree.specs.TreeOf.{tree_of}
use Rattle.tcl_tree.specs.declared.tree.Tree.{Tree as Table}

either_way : (a b : ℕ) → (a ≤ b) ⊎ (b ≤ a)
either_way a b = grind arith

at_most : (a b c : ℕ) → a ≤ b → b ≤ c → a ≤ c
at_most a b c e f = omega arith

itself : (a : ℕ) → a ≤ a
itself a = omega arith

first_of : (a b : ℕ) → a ≤ a + b
first_of a b = omega arith

second_of : (a b : ℕ) → b ≤ a + b
second_of a b = omega arith

no_more : (a b : ℕ) → a ≤ b → a + 0 ≤ b
no_more a b e = omega arith

-- a count that rose from t to u by k steps, n having been made since it was f
rose_to : (f n k t u : ℕ) → u ≡ t + k → f + n ≤ t → f + (n + k) ≤ u
rose_to f n k t u rose counted = omega arith

rose_within : (f n k t u b : ℕ) → u ≡ t + k → f + n ≤ t → u ≤ b → f + (n + k) ≤ b
rose_within f n k t u b rose counted stays = omega arith

rose_not : (f n k t u b : ℕ) → u ≡ t + k → f + n ≤ b → u ≤ t → f + (n + k) ≤ b
rose_not f n k t u b rose few stays = omega arith

module _ {S : Type 0} (step : S → Request → HostReply → S → Type 0) (law : laws.ScriptsStayWithin (hosted step)) (c : Path) (below : IsBelowTheTop c) (first : Table) (l b : ℕ) where
  abbrev count : Table → ℕ
  count t = count_at (tree_of t c)

  -- what holds after some of them
  pub record So_far (n : ℕ) (t : Table) : Type 0 where
    pub few : count first + n ≤ b
    pub counted : count first + n ≤ count t
    pub limit : (k : ℕ) × (limit_at (tree_of t c) ≡ Some k) × (k ≤ l)

  -- the count rises by the steps of one
  rises : (t u : Table) (k : ℕ) → Run step c t k u → count u ≡ count t + k
  rises t u k r = recorded.count_rises step t r.before r.path r.script r.limit c r.kept u r.after r.end r.recorded below ∙ ap (λ j. count t + j) (sym r.made)

  -- and stays within what the limit and the count before are
  within : (t u : Table) (k : ℕ) → Run step c t k u → (m d : ℕ) → limit_at (tree_of t c) ≡ Some m → m ≤ d → count t ≤ d → IsWithin (tree_of u c) m d
  within t u k r m d at_limit md cd = recorded.stays_within step t r.before r.path r.script r.limit c r.kept u r.after r.end law r.recorded below m d at_limit (r.lowering m at_limit) md cd

  few_so : (n k : ℕ) (t u : Table) → Run step c t k u → So_far n t → l ≤ b → count first + (n + k) ≤ b
  few_so n k t u r f lb = by (either_way (count t) b)
    where
      by : (count t ≤ b) ⊎ (b ≤ count t) → count first + (n + k) ≤ b
      by (inl le) = rose_within (count first) n k (count t) (count u) b (rises t u k r) f.counted (within t u k r f.limit.0 b f.limit.1 (at_most f.limit.0 l b f.limit.2 lb) le).count
      by (inr ge) =
          let small : f.limit.0 ≤ count t = at_most f.limit.0 b (count t) (at_most f.limit.0 l b f.limit.2 lb) ge in
          rose_not (count first) n k (count t) (count u) b (rises t u k r) f.few (within t u k r f.limit.0 (count t) f.limit.1 small (itself (count t))).count

  after : {n : ℕ} {t : Table} → InTurn step c first n t → limit_at (tree_of first c) ≡ Some l → l ≤ b → count first ≤ b → So_far n t
  after none at_limit lb cb = record { few = no_more (count first) b cb; counted = no_more (count first) (count first) (itself (count first)); limit = (l, at_limit, itself l) }
  after (changed {n} {t} {u} turn between) at_limit lb cb =
      let f : So_far n t = after turn at_limit lb cb in
      let kept : (k : ℕ) × (limit_at (tree_of u c) ≡ Some k) × (k ≤ f.limit.0) = between.limit f.limit.0 f.limit.1 in
      record { few = f.few; counted = at_most (count first + n) (count t) (count u) f.counted between.count; limit = (kept.0, kept.1, at_most kept.0 f.limit.0 l kept.2 f.limit.2) }
  after (ran {n} {k} {t} {u} turn run) at_limit lb cb =
      let f : So_far n t = after turn at_limit lb cb in
      let stays : IsWithin (tree_of u c) f.limit.0 (f.limit.0 + count t) = within t u k run f.limit.0 (f.limit.0 + count t) f.limit.1 (first_of f.limit.0 (count t)) (second_of f.limit.0 (count t)) in
      record {
        few = few_so n k t u run f lb;
        counted = rose_to (count first) n k (count t) (count u) (rises t u k run) f.counted;
        limit = (stays.limit.0, stays.limit.1, at_most stays.limit.0 f.limit.0 l stays.limit.2 f.limit.2);
      }

  pub in_all : (n : ℕ) (last : Table) → InTurn step c first n last → limit_at (tree_of first c) ≡ Some l → l ≤ b → count first ≤ b → count first + n ≤ b
  in_all n last turn at_limit lb cb = (after turn at_limit lb cb).few
