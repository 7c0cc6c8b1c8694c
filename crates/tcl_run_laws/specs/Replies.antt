-- The replies of a host.
use Rattle.std.specs.Prelude.{◌≡◌, ℕ, List, [], ◌∷◌, Some, None}
use Rattle.tcl_core.specs.Endings.{Reply}
use Rattle.tcl_core.specs.Endings.Kind.{Gone}
use Rattle.tcl_core.specs.Endings.Reply.{Stop}
use Rattle.tcl_core.specs.Entries.{Answer, Entry, Request}
use Rattle.tcl_core.specs.Entries.Answer.{Replied, Heard, Nobody}
use Rattle.tcl_core.specs.Entries.Entry.{AskHost}
use Rattle.tcl_core.specs.Paths.{Path, Place, Height}
use Rattle.tcl_core.specs.Execution.{event}
use Rattle.tcl_core.specs.Trees.{Event}
use Rattle.tcl_core.specs.Trees.What.{Out, Done}
use Rattle.tcl_host.specs.declared.reply.HostReply.{HostReply as TheirReply}
use Rattle.tcl_host.specs.declared.request.Request.{Request as TheirRequest}
use Rattle.tcl_run.specs.Entering.{request_of}
use Rattle.tcl_run.specs.Outsides.{reply_of}
use Rattle.tcl_tree.specs.Own.{Own}

-- The replies belong to the host, whose steps are `step`, and take it from one state to the other:
-- each request among what is told to the outside, in order, is answered by the reply that the host
-- gives to it as it then stands; a call of an interpreter above the tree by that nobody is there,
-- and the host stays as it is; and the end of an entry wants no answer. Whoever is gone by then is
-- told that in place of either.
pub data Belongs {S : Type 0} (step : S → TheirRequest → TheirReply → S → Type 0) : S →
    List (Event Own) → List Answer → S → Type 0 where
  over : {o : S} → Belongs step o [] [] o
  ended : {o z : S} {p : Place} {h : Height} {r : Reply} {outs : List (Event Own)} {B : List Answer}
      → Belongs step o outs B z → Belongs step o (event p (Done h r) ∷ outs) B z
  served : {o u z : S} {p : Place} {down : Path} {asked : Request} {outs : List (Event Own)}
      {B : List Answer} (request : TheirRequest) (reply : TheirReply) →
      request_of request ≡ asked → step o request reply u → Belongs step u outs B z →
      Belongs step o (event p (Out None down (AskHost asked)) ∷ outs) (Heard (reply_of reply) ∷ B) z
  untold : {o u z : S} {p : Place} {down : Path} {asked : Request} {outs : List (Event Own)}
      {B : List Answer} (request : TheirRequest) (reply : TheirReply) (n : ℕ) →
      request_of request ≡ asked → step o request reply u → Belongs step u outs B z →
      Belongs step o (event p (Out None down (AskHost asked)) ∷ outs) (Replied (Stop n Gone) ∷ B) z
  missed : {o z : S} {p : Place} {n : ℕ} {down : Path} {i : Entry} {outs : List (Event Own)}
      {B : List Answer} → Belongs step o outs B z →
      Belongs step o (event p (Out (Some n) down i) ∷ outs) (Nobody ∷ B) z
  missed_untold : {o z : S} {p : Place} {n : ℕ} {down : Path} {i : Entry} {outs : List (Event Own)}
      {B : List Answer} (l : ℕ) → Belongs step o outs B z →
      Belongs step o (event p (Out (Some n) down i) ∷ outs) (Replied (Stop l Gone) ∷ B) z
