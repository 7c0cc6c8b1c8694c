-- What the bytes of a script are, from what the host replies.
use Rattle.std.proofs.Common.{◌≡◌, ℕ, List, Result, Ok, Err, codes, sym, subst, inl, inr}
use Rattle.tcl_host.specs.Hosts.{Replied, done_reply}
use Rattle.tcl_host.specs.declared.reply.HostError.{HostError}
use Rattle.tcl_host.specs.declared.reply.HostError.TheVariants as error
use Rattle.tcl_host.specs.declared.open_mode.OpenMode.TheVariants.{Read}
use Rattle.tcl_host.specs.declared.reply.HostReply.TheVariants.{Opened, Rest, Done, Refused}
use Rattle.tcl_host.specs.declared.request.Request.TheVariants.{Open, ReadAll, Close}
use Rattle.tcl_shell.specs.Reading.{Serving, GivesBytes, OpensSo, ReadsFile, ReadsInput, Asks, unread_by}
use Rattle.tcl_shell.specs.declared.ending.Ending.{Ending}

asked : {S : Type 0} (step : Serving S) (opened read : S) (channel : List ℕ) (r : Result (List ℕ) HostError) → Replied (λ s. step s (ReadAll channel)) Rest opened r read → Asks step opened (ReadAll channel) read
asked step opened read channel (Ok bytes) h = inl (Rest bytes, h)
asked step opened read channel (Err error.Memory) h = inr h
asked step opened read channel (Err (error.Refused why)) h = inl (Refused why, h)

shut : {S : Type 0} (step : Serving S) (file : List ℕ) (old opened read new : S) (channel : List ℕ) (e : HostError) → OpensSo step file old channel opened → Asks step opened (ReadAll channel) read
    → Replied (λ s. step s (Close channel)) done_reply read (Err e) new → ReadsFile step file old (Err (unread_by e)) new
shut step file old opened read new channel error.Memory o a h = inr (channel, opened, read, o, inr (a, h))
shut step file old opened read new channel (error.Refused why) o a h = inr (channel, opened, read, o, inr (a, (why, h)))

-- what the channel is called in each of the three calls is one name
pub refused_to_close : {S : Type 0} (step : Serving S) (file : List ℕ) (old opened read new : S) (channel n m : List ℕ) (r : Result (List ℕ) HostError) (e : HostError) → n ≡ channel → m ≡ channel
    → OpensSo step file old channel opened → Replied (λ s. step s (ReadAll n)) Rest opened r read → Replied (λ s. step s (Close m)) done_reply read (Err e) new → ReadsFile step file old (Err (unread_by e)) new
refused_to_close {S} step file old opened read new channel n m r e en em o h k =
    let read_so = subst (λ (x : List ℕ). Replied (λ s. step s (ReadAll x)) Rest opened r read) en h in
    let shut_so = subst (λ (x : List ℕ). Replied (λ s. step s (Close x)) done_reply read (Err e) new) em k in
    shut step file old opened read new channel e o (asked step opened read channel r read_so) shut_so

-- the host doesn't open it
pub not_opened : {S : Type 0} (step : Serving S) (file : List ℕ) (old new : S) (e : HostError) → Replied (λ s. step s (Open file Read)) Opened old (Err e) new → ReadsFile step file old (Err (unread_by e)) new
not_opened step file old new error.Memory h = inl h
not_opened step file old new (error.Refused why) h = inl (why, h)

closed_so : {S : Type 0} (step : Serving S) (file : List ℕ) (old opened read new : S) (channel : List ℕ) (r : Result (List ℕ) HostError) (g : Result (List ℕ) Ending) → OpensSo step file old channel opened
    → Replied (λ s. step s (ReadAll channel)) Rest opened r read → GivesBytes r g → step read (Close channel) Done new → ReadsFile step file old g new
closed_so step file old opened read new channel (Ok bytes) g o h e k = subst (λ x. ReadsFile step file old x new) (sym e) (channel, opened, read, o, h, k)
closed_so step file old opened read new channel (Err error.Memory) g o h e k = subst (λ x. ReadsFile step file old x new) (sym e) (inr (channel, opened, read, o, inl (h, k)))
closed_so step file old opened read new channel (Err (error.Refused why)) g o h e k = subst (λ x. ReadsFile step file old x new) (sym e) (inr (channel, opened, read, o, inl ((why, h), k)))

-- it is read, or not, and closed
pub read_and_closed : {S : Type 0} (step : Serving S) (file : List ℕ) (old opened read new : S) (channel n m : List ℕ) (r : Result (List ℕ) HostError) (g : Result (List ℕ) Ending) → n ≡ channel → m ≡ channel
    → OpensSo step file old channel opened → Replied (λ s. step s (ReadAll n)) Rest opened r read → GivesBytes r g → step read (Close m) Done new → ReadsFile step file old g new
read_and_closed {S} step file old opened read new channel n m r g en em o h e k =
    closed_so step file old opened read new channel r g o (subst (λ (x : List ℕ). Replied (λ s. step s (ReadAll x)) Rest opened r read) en h) e (subst (λ (x : List ℕ). step read (Close x) Done new) em k)

-- the standard input is read, or not
pub input_read : {S : Type 0} (step : Serving S) (old new : S) (r : Result (List ℕ) HostError) (g : Result (List ℕ) Ending) → Replied (λ s. step s (ReadAll (codes "stdin"))) Rest old r new → GivesBytes r g → ReadsInput step old g new
input_read step old new (Ok bytes) g h e = subst (λ x. ReadsInput step old x new) (sym e) h
input_read step old new (Err error.Memory) g h e = subst (λ x. ReadsInput step old x new) (sym e) h
input_read step old new (Err (error.Refused why)) g h e = subst (λ x. ReadsInput step old x new) (sym e) (why, h)
