-- What answers a call that passes the top fits it.
use Rattle.std.proofs.Common.{◌≡◌, ℕ, ◌≤◌, Bool, true, false, length, Option, Some, None, refl, sym, ◌∙◌, arith}
use Rattle.std.specs.Prelude.{nat_eq, nat_lt}
use Rattle.std.proofs.lemmas.Bool.Decides.{nat_tests}
use Rattle.std.proofs.lemmas.Option.{same_Some}
use Rattle.tcl_core.proofs.PathLaws.{rise_far}
use Rattle.tcl_core.proofs.Seeing.{idle_most}
use Rattle.tcl_core.specs.Endings.Reply.{Completed, Stop, Exit, Cut}
use Rattle.tcl_core.specs.Entries.{Answer, Entry}
use Rattle.tcl_core.specs.Entries.Answer.{Replied, Nobody}
use Rattle.tcl_core.specs.Paths.{Height, Place, rise_to}
use Rattle.tcl_core.specs.Runs.{gone, gone_by, idle_up, is_told, levels}
use Rattle.tcl_core.specs.Trees.{Tree, depth_of}
use Rattle.tcl_run.specs.Outsides.{told_to}
use Rattle.tcl_tree.specs.Own.{Own}
use Rattle.tcl_core.specs.Entries.{answers}
use Rattle.tcl_core.specs.Entries.Answer.{Heard}
use Rattle.tcl_core.specs.Entries.Entry.{AskHost}
use Rattle.tcl_core.specs.Runs.{is_own}
use Rattle.tcl_host.specs.Replies.{is_reply_to}
use Rattle.tcl_host.specs.declared.reply.HostRefusal.TheVariants as refusal
use Rattle.tcl_host.specs.declared.reply.HostReply.{HostReply}
use Rattle.tcl_host.specs.declared.reply.HostReply.TheVariants as reply
use Rattle.tcl_host.specs.declared.request.Request.{Request}
use Rattle.tcl_host.specs.declared.request.Request.TheVariants as request
use Rattle.tcl_run.specs.Entering.{request_of}
use Rattle.tcl_run.specs.Outsides.{reply_of}

-- The replies that a host may give to a request are those that answer it in the words of the core.
pub answers_so : (a : HostReply) (q : Request) → is_reply_to a q ≡ answers (request_of q) (reply_of a)
answers_so (reply.Opened c) (request.Open n m) = refl
answers_so (reply.Opened c) (request.ReadLine d) = refl
answers_so (reply.Opened c) (request.ReadAll d) = refl
answers_so (reply.Opened c) (request.Write d t) = refl
answers_so (reply.Opened c) (request.Flush d) = refl
answers_so (reply.Opened c) (request.Close d) = refl
answers_so (reply.Opened c) (request.Eof d) = refl
answers_so (reply.Line b) (request.Open n m) = refl
answers_so (reply.Line b) (request.ReadLine d) = refl
answers_so (reply.Line b) (request.ReadAll d) = refl
answers_so (reply.Line b) (request.Write d t) = refl
answers_so (reply.Line b) (request.Flush d) = refl
answers_so (reply.Line b) (request.Close d) = refl
answers_so (reply.Line b) (request.Eof d) = refl
answers_so reply.End (request.Open n m) = refl
answers_so reply.End (request.ReadLine d) = refl
answers_so reply.End (request.ReadAll d) = refl
answers_so reply.End (request.Write d t) = refl
answers_so reply.End (request.Flush d) = refl
answers_so reply.End (request.Close d) = refl
answers_so reply.End (request.Eof d) = refl
answers_so (reply.Rest b) (request.Open n m) = refl
answers_so (reply.Rest b) (request.ReadLine d) = refl
answers_so (reply.Rest b) (request.ReadAll d) = refl
answers_so (reply.Rest b) (request.Write d t) = refl
answers_so (reply.Rest b) (request.Flush d) = refl
answers_so (reply.Rest b) (request.Close d) = refl
answers_so (reply.Rest b) (request.Eof d) = refl
answers_so reply.Done (request.Open n m) = refl
answers_so reply.Done (request.ReadLine d) = refl
answers_so reply.Done (request.ReadAll d) = refl
answers_so reply.Done (request.Write d t) = refl
answers_so reply.Done (request.Flush d) = refl
answers_so reply.Done (request.Close d) = refl
answers_so reply.Done (request.Eof d) = refl
answers_so (reply.AtEnd b) (request.Open n m) = refl
answers_so (reply.AtEnd b) (request.ReadLine d) = refl
answers_so (reply.AtEnd b) (request.ReadAll d) = refl
answers_so (reply.AtEnd b) (request.Write d t) = refl
answers_so (reply.AtEnd b) (request.Flush d) = refl
answers_so (reply.AtEnd b) (request.Close d) = refl
answers_so (reply.AtEnd b) (request.Eof d) = refl
answers_so (reply.Refused refusal.NoChannel) (request.Open n m) = refl
answers_so (reply.Refused refusal.DeviceFault) (request.Open n m) = refl
answers_so (reply.Refused refusal.NotOpened) (request.Open n m) = refl
answers_so (reply.Refused refusal.NoChannel) (request.ReadLine d) = refl
answers_so (reply.Refused refusal.DeviceFault) (request.ReadLine d) = refl
answers_so (reply.Refused refusal.NotOpened) (request.ReadLine d) = refl
answers_so (reply.Refused refusal.NoChannel) (request.ReadAll d) = refl
answers_so (reply.Refused refusal.DeviceFault) (request.ReadAll d) = refl
answers_so (reply.Refused refusal.NotOpened) (request.ReadAll d) = refl
answers_so (reply.Refused refusal.NoChannel) (request.Write d t) = refl
answers_so (reply.Refused refusal.DeviceFault) (request.Write d t) = refl
answers_so (reply.Refused refusal.NotOpened) (request.Write d t) = refl
answers_so (reply.Refused refusal.NoChannel) (request.Flush d) = refl
answers_so (reply.Refused refusal.DeviceFault) (request.Flush d) = refl
answers_so (reply.Refused refusal.NotOpened) (request.Flush d) = refl
answers_so (reply.Refused refusal.NoChannel) (request.Close d) = refl
answers_so (reply.Refused refusal.DeviceFault) (request.Close d) = refl
answers_so (reply.Refused refusal.NotOpened) (request.Close d) = refl
answers_so (reply.Refused refusal.NoChannel) (request.Eof d) = refl
answers_so (reply.Refused refusal.DeviceFault) (request.Eof d) = refl
answers_so (reply.Refused refusal.NotOpened) (request.Eof d) = refl

pub own_reply : (a : HostReply) (q : Request) → is_reply_to a q ≡ true → is_own None (AskHost (request_of q)) (Heard (reply_of a)) ≡ true
own_reply a q fits = sym (answers_so a q) ∙ fits

-- ## Callers that are gone

pub gone_most : (d : ℕ) (T : Tree Own) (p : Place) (l : ℕ) → gone d T p ≡ Some l → l ≤ length p
gone_most d T p l e = by (nat_lt (depth_of (T p)) d) e
  where
    by : (b : Bool) → gone_by b (levels (idle_up T p)) ≡ Some l → l ≤ length p
    by true f = let same : levels (idle_up T p) ≡ l = same_Some _ _ f in let m = idle_most p T in omega arith
    by false f = let clash : None ≡ Some l = f in absurd cc

same_number : (n : ℕ) → nat_eq n n ≡ true
same_number n = grind (arith, nat_tests)

-- What answers a call of a caller that stands is told to one that is gone so that it fits.
told_by : (g : Option ℕ) (p : Place) → ((l : ℕ) → g ≡ Some l → l ≤ length p) → (h : Height) → rise_to h p ≡ None → (i : Entry) (a : Answer) → is_own h i a ≡ true → is_told g h i (told_to g a) ≡ true
told_by None p most h up i a own = own
told_by (Some l) p most (Some h) up i (Replied (Completed c)) own = let far = rise_far p h up in let m = most l refl in grind (arith, nat_tests)
told_by (Some l) p most (Some h) up i (Replied (Stop n k)) own = own
told_by (Some l) p most (Some h) up i (Replied (Exit n)) own = refl
told_by (Some l) p most (Some h) up i (Replied (Cut c)) own = refl
told_by (Some l) p most (Some h) up i (Heard a) own = let clash : false ≡ true = own in absurd cc
told_by (Some l) p most (Some h) up i Nobody own = let far = rise_far p h up in let m = most l refl in grind (arith, nat_tests)
told_by (Some l) p most None up i (Replied (Completed c)) own = let clash : false ≡ true = own in absurd cc
told_by (Some l) p most None up i (Replied (Stop n k)) own = let clash : false ≡ true = own in absurd cc
told_by (Some l) p most None up i (Replied (Exit n)) own = refl
told_by (Some l) p most None up i (Replied (Cut c)) own = refl
told_by (Some l) p most None up i (Heard a) own = same_number l
told_by (Some l) p most None up i Nobody own = same_number l

pub told_fits : (d : ℕ) (T : Tree Own) (p : Place) (h : Height) (i : Entry) (a : Answer) → rise_to h p ≡ None → is_own h i a ≡ true → is_told (gone d T p) h i (told_to (gone d T p) a) ≡ true
told_fits d T p h i a up own = told_by (gone d T p) p (gone_most d T p) h up i a own
