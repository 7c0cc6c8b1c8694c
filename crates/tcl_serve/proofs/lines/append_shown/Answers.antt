use Rattle.std.proofs.Common.{rules, ap, length, refl, subst, take}
use Rattle.std.proofs.BufReadLemmas.{Consumes_shown}
use Rattle.std.specs.Io.BufRead.{FillKeeps}
use Rattle.std.specs.Io.KnownBytes.{Consumes}
use Rattle.tcl_serve.proofs.LineLemmas.{append_fault, none_shown, reads_err}
use Rattle.tcl_serve.proofs.lines.append_shown.Goals as goal

pub returns-in_err-append : goal.returns-in_err-append
returns-in_err-append g c = reads_err _ _ _ _ _ c.in_err-append.field-0.0 (search rules)
    (append_fault _ _ _ _ c.look-shown.result.len c.in-Ok.ensures.front c.look-shown.ensures.within c.in_err-append.ensures.fault)

pub returns : goal.returns
returns g c =
    let rested = c.fill_buf.follows.lender-at-none in
    let filled = subst (FillKeeps _ (g.R.Read.remaining rested) (g.R.BufRead.consumable_len rested)) c.in-Ok.is c.fill_buf.follows.holds-at-none in
    let shown = c.look-shown.ensures in
    let moved = Consumes_shown _ _ _ _ c.in-Ok.bytes.now c.look-shown.result.used shown.used c.in-Ok.ensures.front c.in-Ok.ensures.end filled.0 filled.1 c.consume.ensures.bytes in
    record {
      more = take c.look-shown.result.len c.in-Ok.bytes.now;
      after_is = search rules;
      within = shown.within;
      short = search rules;
      unread = subst (Consumes _ _) shown.taken moved.0;
      at_end = λ is. (
        ap (λ n. take n c.in-Ok.bytes.now) (shown.at_end is).0,
        none_shown _ _ c.in-Ok.ensures.end (ap length (shown.at_end is).1),
      );
    }
