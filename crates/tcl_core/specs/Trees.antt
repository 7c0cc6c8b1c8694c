-- A tree of interpreters, what can happen to it, and how each happening changes it.
-- O is an interpreter's own part: its frames, commands and hidden commands, and the names of its
-- children in order.
use Rattle.std.specs.Prelude.{ℕ, suc, pred, Bool, true, false, List, [], ◌∷◌, ◌++◌, Option, Some}
use Rattle.std.specs.Prelude.{None, nat_lt, length}
use Rattle.tcl_core.specs.Paths.{Path, Place, Height, strip, rise_to, seen_height}
use Rattle.tcl_core.specs.Endings.{Meter, Kind, Completion, Reply}
use Rattle.tcl_core.specs.Endings.Kind.{Full, Gone}
use Rattle.tcl_core.specs.Endings.Reply.{Stop, Cut}
use Rattle.tcl_core.specs.Endings.Cause.{Above}
use Rattle.tcl_core.specs.Entries.{Entry, Answer}
use Rattle.tcl_core.specs.Entries.Answer.{Replied, Heard, Nobody}

-- An interpreter: its own part, which its own commands may change; whether it is safe, and whether
-- it is the root of its tree, which stay; and its meters, which only their own happenings move.
pub record Node (O : Type 0) : Type 0 where
  pub own : O
  pub safe : Bool
  pub root : Bool
  pub count : ℕ
  pub limit : Option ℕ
  pub depth : ℕ
  pub depth_limit : ℕ

-- how many evaluations are in progress in an interpreter and below it; none where none stands
abbrev pub depth_of : {O : Type 0} → Option (Node O) → ℕ
depth_of None = 0
depth_of (Some n) = n.depth

-- the interpreters, by their places
abbrev pub Tree : Type 0 → Type 0
Tree O = List (List ℕ) → Option (Node O)

-- the subtree at c, as a tree
abbrev pub at : {O : Type 0} → Tree O → List (List ℕ) → Tree O
at T c = λ p. T (c ++ p)

-- What can happen at an interpreter. All that is said of others is relative: so many levels up, and
-- these names down.
pub data What (O : Type 0) : Type 0 where
  -- its subtree is looked at
  Seen : What O
  -- its own part becomes this
  Changed : (own : O) → What O
  -- a step is counted
  Charged : What O
  -- an evaluation begins, or ends
  Nested : What O
  Unnested : What O
  -- a step, or an evaluation, is refused by the limit of the interpreter so many levels up, or from
  -- outside the tree
  Refused : (meter : Meter) (levels : Height) → What O
  -- its limits are set
  Limited : (limit : Option ℕ) → What O
  DepthLimited : (limit : ℕ) → What O
  -- it is made, or dropped with all below it
  Made : (own : O) (safe : Bool) → What O
  Dropped : What O
  -- a call goes out to the one so many levels up and these names down, or to the host; and its
  -- answer comes back
  Out : (height : Height) (down : Path) (entry : Entry) → What O
  Back : (height : Height) (answer : Answer) → What O
  -- an entry comes in, from so many levels up or from outside the tree; and its reply goes there
  In : (height : Height) (entry : Entry) → What O
  Done : (height : Height) (reply : Reply) → What O
  -- An entry from outside finds nobody at its path, and is told this completion. It happens at the
  -- top of the tree, where the path is read: so in no subtree below.
  Unfound : (path : Path) (entry : Entry) (completion : Completion) → What O

pub record Event (O : Type 0) : Type 0 where
  pub place : Place
  pub what : What O

-- a new interpreter
abbrev pub fresh : {O : Type 0} → O → Bool → Node O
fresh o s = record {
  own = o;
  safe = s;
  root = false;
  count = 0;
  limit = None;
  depth = 0;
  depth_limit = 200;
}

module _ {O : Type 0} where
  abbrev pub at_end : Option Path → (Option (Node O) → Option (Node O)) → Option (Node O) →
      Option (Node O)
  at_end None f o = o
  at_end (Some []) f o = f o
  at_end (Some (x ∷ xs)) f o = o

  abbrev pub where_some : Option Path → (Option (Node O) → Option (Node O)) → Option (Node O) →
      Option (Node O)
  where_some None f o = o
  where_some (Some q) f o = f o

  -- a change of the one interpreter at p; of all that are at p or above; of all that are at p or
  -- below
  abbrev pub on_node : Place → (Option (Node O) → Option (Node O)) → Tree O → Tree O
  on_node p f T = λ r. at_end (strip p r) f (T r)

  abbrev pub on_line : Place → (Option (Node O) → Option (Node O)) → Tree O → Tree O
  on_line p f T = λ r. where_some (strip r p) f (T r)

  abbrev pub on_subtree : Place → (Option (Node O) → Option (Node O)) → Tree O → Tree O
  on_subtree p f T = λ r. where_some (strip p r) f (T r)

  abbrev pub on_some : (Node O → Node O) → Option (Node O) → Option (Node O)
  on_some f None = None
  on_some f (Some n) = Some (f n)

  abbrev pub with_own : O → Option (Node O) → Option (Node O)
  with_own o = on_some (λ n. record n { own = o })

  abbrev pub with_limit : Option ℕ → Option (Node O) → Option (Node O)
  with_limit l = on_some (λ n. record n { limit = l })

  abbrev pub with_depth_limit : ℕ → Option (Node O) → Option (Node O)
  with_depth_limit l = on_some (λ n. record n { depth_limit = l })

  abbrev pub counted : Option (Node O) → Option (Node O)
  counted = on_some (λ n. record n { count = suc n.count })

  abbrev pub deeper : Option (Node O) → Option (Node O)
  deeper = on_some (λ n. record n { depth = suc n.depth })

  abbrev pub shallower : Option (Node O) → Option (Node O)
  shallower = on_some (λ n. record n { depth = pred n.depth })

  -- how a happening changes the tree
  abbrev pub effect : Place → What O → Tree O → Tree O
  effect p (Changed o) T = on_node p (with_own o) T
  effect p Charged T = on_line p counted T
  effect p Nested T = on_line p deeper T
  effect p Unnested T = on_line p shallower T
  effect p (Limited l) T = on_node p (with_limit l) T
  effect p (DepthLimited l) T = on_node p (with_depth_limit l) T
  effect p (Made o s) T = on_node p (λ x. Some (fresh o s)) T
  effect p Dropped T = on_subtree p (λ x. None) T
  effect p (Done h r) T = T
  effect p _ T = T

-- what the outside hands in: an entry; the answer to a call that left the tree; that the tree is
-- made, or dropped
pub data Move (O : Type 0) : Type 0 where
  Enter : (target : Path) (entry : Entry) → Move O
  Come : (answer : Answer) → Move O
  Born : (own : O) (safe : Bool) → Move O
  Fall : Move O

module _ {O : Type 0} where
  abbrev pub where_none : Option Path → Move O → List (Move O) → List (Move O)
  where_none None m ms = m ∷ ms
  where_none (Some a) m ms = ms

  abbrev pub at_top : Path → Move O → List (Move O) → List (Move O)
  at_top [] m ms = m ∷ ms
  at_top (x ∷ p) m ms = ms

  -- the move that a happening reads, in front of those that later ones read
  abbrev pub asked : Place → What O → List (Move O) → List (Move O)
  asked p (In h i) ms = where_none (rise_to h p) (Enter p i) ms
  asked p (Back h a) ms = where_none (rise_to h p) (Come a) ms
  asked p (Made o s) ms = at_top p (Born o s) ms
  asked p Dropped ms = at_top p Fall ms
  asked p (Unfound t i c) ms = Enter t i ∷ ms
  asked p _ ms = ms

-- what the outside says to a step that is to be counted, or an evaluation that is to begin
pub data Grant : Type 0 where
  Allow : Grant
  Deny : Grant

-- what it will say: one word for each that asks; or yes to every evaluation and to so many steps
pub data Grants : Type 0 where
  Listed : List Grant → Grants
  Budget : ℕ → Grants

-- one word more, in front
abbrev pub allowing : Meter → Grants → Grants
allowing m (Listed gs) = Listed (Allow ∷ gs)
allowing Meter.Count (Budget n) = Budget (suc n)
allowing Meter.Depth (Budget n) = Budget n

abbrev pub denying : Grants → Grants
denying (Listed gs) = Listed (Deny ∷ gs)
denying (Budget n) = Budget n

abbrev pub denied : Option Path → Grants → Grants
denied None gs = denying gs
denied (Some a) gs = gs

-- the word that a happening reads, in front of those that later ones read
abbrev pub granted : {O : Type 0} → Place → What O → Grants → Grants
granted p Charged gs = allowing Meter.Count gs
granted p Nested gs = allowing Meter.Depth gs
granted p (Refused m h) gs = denied (rise_to h p) gs
granted p _ gs = gs

-- the steps that a happening counts, added to those of later ones
abbrev pub paid : {O : Type 0} → What O → ℕ → ℕ
paid Charged b = suc b
paid _ b = b

-- A reply as it is seen in a tree where it is told at q. A stop for the limit of one above the top
-- cuts off from outside; where one above the top is gone, the top is.
abbrev pub stopped : Bool → ℕ → Meter → Reply
stopped true n m = Cut Above
stopped false n m = Stop n (Full m)

abbrev pub nearest : Bool → ℕ → ℕ → ℕ
nearest true l n = l
nearest false l n = n

abbrev pub seen_stop : ℕ → ℕ → Kind → Reply
seen_stop l n (Full m) = stopped (nat_lt l n) n m
seen_stop l n Gone = Stop (nearest (nat_lt l n) l n) Gone

abbrev pub seen_reply : List (List ℕ) → Reply → Reply
seen_reply q (Stop n k) = seen_stop (length q) n k
seen_reply q (Cut c) = Cut Above
seen_reply q r = r

abbrev pub seen_answer : List (List ℕ) → Answer → Answer
seen_answer q (Replied r) = Replied (seen_reply q r)
seen_answer q (Heard a) = Heard a
seen_answer q Nobody = Nobody

-- a happening as it is seen in a tree where it is at q
abbrev pub seen_what : {O : Type 0} → List (List ℕ) → What O → What O
seen_what q (Refused m h) = Refused m (seen_height q h)
seen_what q (In h i) = In (seen_height q h) i
seen_what q (Done h r) = Done (seen_height q h) (seen_reply q r)
seen_what q (Back h a) = Back h (seen_answer q a)
seen_what q x = x
