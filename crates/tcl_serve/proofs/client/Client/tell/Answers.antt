use Rattle.std.proofs.Common.{◌≡◌, Some, None, subst, sym}
use Rattle.tcl_serve.proofs.Turning.{if_ok_more}
use Rattle.tcl_serve.specs.Clients.Tells.{hears, opens}
use Rattle.tcl_serve.specs.Opened.{last_of}
use Rattle.tcl_serve.proofs.client.Client.tell.Goals as goal

pub returns-in-Some : goal.returns-in-Some
returns-in-Some g c = if_ok_more c.entry_ends.result _ _
    (λ x h. hears c.in-Some.completion.now (subst (λ xs. last_of xs ≡ Some c.in-Some.completion.now) c.as_slice.ensures.value (sym c.in-Some.ensures.value)) h)
    c.entry_ends.ensures

pub returns-in-None : goal.returns-in-None
returns-in-None g c = if_ok_more c.open.result _ _ (λ x h. opens (subst (λ xs. last_of xs ≡ None) c.as_slice.ensures.value (sym c.in-None.ensures.value)) h) c.open.ensures
