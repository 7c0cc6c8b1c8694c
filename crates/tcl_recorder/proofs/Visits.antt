-- Entries from outside of the tree, with what happens in them.
use Rattle.std.proofs.Common.{◌≡◌, Bool, true, false, List, [], ◌∷◌, ◌++◌, Some, None, refl, sym, ◌∙◌, ap, subst}
use Rattle.tcl_core.specs.Endings.{Reply}
use Rattle.tcl_core.specs.Entries.{Entry}
use Rattle.tcl_core.specs.Paths.{Place}
use Rattle.tcl_core.specs.Programs.{Prog, Table, Wait}
use Rattle.tcl_core.specs.Rules.{Derives}
use Rattle.tcl_core.specs.Runs.{Runs, Visits}
use Rattle.tcl_core.specs.Execution.{Chain, Crossings, Executes, before, event, more, none}
use Rattle.tcl_core.specs.Trees.{Event, Node, Tree}
use Rattle.tcl_core.specs.Trees.What.{In, Done}
use Rattle.tcl_core.proofs.Callers.{fit}
use Rattle.tcl_core.proofs.Following.{Says, ahead, ahead-all, ahead-append, ahead_later, called_on, chain-append, follows, later, nothing}
use Rattle.tcl_core.proofs.RuleLaws.{derived_runs}
use Rattle.tcl_run.specs.Outsides.{Going}
use Rattle.tcl_tree.specs.Own.{Own}
use Rattle.tcl_recorder.specs.Laws.{KeepsAll, WatchedEntry, WatchedVisit, visit}
use Rattle.tcl_recorder.specs.Records.{RecordView}
use Rattle.tcl_recorder.specs.Recording.{after, fallen_after, falls, noted, noted_in, noted_of, recorded, told_of, while_there}
use Rattle.tcl_recorder.specs.declared.recorder.Recorder.{Recorder}
use Rattle.tcl_recorder.proofs.Fates.{fate_parts, there_parts}
use Rattle.tcl_recorder.proofs.Meeting.{AreMet, met_front, visit_met}
use Rattle.tcl_recorder.proofs.Notes.{after_none}
use Rattle.tcl_recorder.proofs.Watched.{after_parts, told_there, watched}

-- What is a run for every rest of its tape is one before this rest.
runs_before : {I S : Type 0} (step : Tree Own → S → Wait → Event Own → S → Type 0) (prog : Table Own I) {T V : Tree Own} {o z : S} {p : Place} {x : Prog Own I} {r : Reply} (h : Says step prog T o p x V z r) (tail : List (Event Own)) →
    Runs prog (before T (h.events ++ tail)) p x (before V tail) (Some r)
runs_before step prog {T} {V} {o} {z} {p} {x} {r} h tail =
    let there : Derives prog (ahead T h.events (later tail nothing)) p x (ahead V [] (later tail nothing)) (Some r) = h.runs (later tail nothing) in
    let begun : Derives prog (before T (h.events ++ tail)) p x (ahead V [] (later tail nothing)) (Some r) =
    subst (λ w. Derives prog w p x (ahead V [] (later tail nothing)) (Some r)) (sym (ahead-append T h.events tail nothing) ∙ ahead-all T (h.events ++ tail)) there in
    let over : Derives prog (before T (h.events ++ tail)) p x (before V tail) (Some r) =
    subst (λ w. Derives prog (before T (h.events ++ tail)) p x w (Some r)) (ahead_later V tail nothing ∙ ahead-all V tail) begun in
    derived_runs prog over

-- So its entry is a visit.
pub visits : {I S : Type 0} (step : Tree Own → S → Wait → Event Own → S → Type 0) (prog : Table Own I) {T V : Tree Own} {o z : S} (t : Place) (i : Entry) {r : Reply} (node : Node Own) (there : T t ≡ Some node) (h : Says step prog T o t (prog.entry i) V z r) →
    Visits prog (Runs prog) (before T (visit t i h.events r)) None t i (before V []) (Some r)
visits step prog {T} {V} {o} {z} t i {r} node there h = record {
  node = node;
  stands = there;
  entered = before T (h.events ++ event t (Done None r) ∷ []);
  left = before V (event t (Done None r) ∷ []);
  entry = record { tape = refl; tree = refl; moves = refl; grants = refl };
  run = runs_before step prog h (event t (Done None r) ∷ []);
  leaving = record { tape = refl; tree = refl; moves = refl; grants = refl };
}

-- the record of a visit
there_visit : (b : Bool) (c : Place) (t : Place) (i : Entry) (τ : List (Event Own)) (r : Reply) →
    while_there b c (visit t i τ r) ≡ while_there b c (event t (In None i) ∷ []) ++ (while_there b c τ ++ while_there (fallen_after b c τ) c (event t (Done None r) ∷ []))
there_visit b c t i τ r = there_parts b c (event t (In None i) ∷ []) (τ ++ event t (Done None r) ∷ []) ∙ ap (λ l. while_there b c (event t (In None i) ∷ []) ++ l) (still b)
  where
    still : (b : Bool) → while_there (fallen_after b c (event t (In None i) ∷ [])) c (τ ++ event t (Done None r) ∷ []) ≡ while_there b c τ ++ while_there (fallen_after b c τ) c (event t (Done None r) ∷ [])
    still b = there_parts b c τ (event t (Done None r) ∷ [])

noted_there : (b : Bool) (r : RecordView) (ev : Event Own) → falls r.watched ev ≡ false → noted_in b r ev ≡ after r (while_there b r.watched (ev ∷ []))
noted_there true r ev f = after_none r
noted_there false r ev f = ap (λ a. after r (ev ∷ while_there a r.watched [])) (sym f)

-- what is recorded of an entry, of which it is noted that it comes and that it ends
pub kept_entry : (T : Tree Own) (r k z : RecordView) (b d : Bool) (t : Place) (i : Entry) (τ : List (Event Own)) (x : Reply) → AreMet T τ →
    k ≡ after (noted_in b r (event t (In None i))) (told_of b (noted_in b r (event t (In None i))).watched T τ) → d ≡ fallen_after b (noted_in b r (event t (In None i))).watched τ →
    z ≡ after k (while_there d k.watched (event t (Done None x) ∷ [])) → z ≡ after r (while_there b r.watched (visit t i τ x))
kept_entry T r k z b d t i τ x m going fate ended =
    let first : Event Own = event t (In None i) in
    let last : Event Own = event t (Done None x) in
    let c : Place = r.watched in
    let begun : noted_in b r first ≡ after r (while_there b c (first ∷ [])) = noted_there b r first refl in
    let so : k ≡ after (after r (while_there b c (first ∷ []))) (while_there b c τ) =
    going ∙ ap (λ (q : RecordView). after q (told_of b q.watched T τ)) begun ∙ ap (after (after r (while_there b c (first ∷ [])))) (told_there b c T τ m) in
    let fell : d ≡ fallen_after b c τ = fate ∙ ap (λ (q : RecordView). fallen_after b q.watched τ) begun in
    ended
    ∙ ap (λ (q : RecordView). after q (while_there d q.watched (last ∷ []))) so
    ∙ ap (λ a. after (after (after r (while_there b c (first ∷ []))) (while_there b c τ)) (while_there a c (last ∷ []))) fell
    ∙ after_parts (after r (while_there b c (first ∷ []))) (while_there b c τ) (while_there (fallen_after b c τ) c (last ∷ []))
    ∙ after_parts r (while_there b c (first ∷ [])) (while_there b c τ ++ while_there (fallen_after b c τ) c (last ∷ []))
    ∙ sym (ap (after r) (there_visit b c t i τ x))

pub fate_entry : (r : RecordView) (b d : Bool) (t : Place) (i : Entry) (τ : List (Event Own)) (x : Reply) → d ≡ fallen_after b (noted_in b r (event t (In None i))).watched τ → d ≡ fallen_after b r.watched (visit t i τ x)
fate_entry r b d t i τ x fate = fate ∙ ap (λ (q : RecordView). fallen_after b q.watched τ) (noted_there b r (event t (In None i)) refl) ∙ sym (fate_parts b r.watched τ (event t (Done None x) ∷ []))

-- an end that is told is noted
pub told_end : (d : Bool) (k : RecordView) (V : Tree Own) (t : Place) (x : Reply) → after k (noted_of d V (event t (Done None x))) ≡ after k (while_there d k.watched (event t (Done None x) ∷ []))
told_end true k V t x = refl
told_end false k V t x = refl

pub end_noted : (d : Bool) (k : RecordView) (V : Tree Own) (t : Place) (x : Reply) → after k (noted_of d V (event t (Done None x))) ≡ noted_in d k (event t (Done None x))
end_noted true k V t x = sym (after_none k)
end_noted false k V t x = refl

module _ {I S : Type 0} (goes : Going S) (prog : Table Own I) (T V : Tree Own) where
  pub watched_visit : (o u w z : Recorder S) (t : Place) (i : Entry) (r : Reply) (node : Node Own) → T t ≡ Some node →
      recorded goes T o None (event t (In None i)) u → Executes (Crossings (recorded goes)) prog T u t (prog.entry i) V w r → recorded goes V w None (event t (Done None r)) z →
      WatchedVisit goes prog T o t i V z r
  watched_visit o u w z t i r node there enters run leaves =
      let x : Prog Own I = prog.entry i in
      let calls = prog.entries_call i in
      let made = follows (Crossings (recorded goes)) prog (fit x calls) run in
      let told = called_on (Crossings (recorded goes)) x calls (made.chain []) in
      let entry : Crossings (recorded goes) T o None (event t (In None i)) u = record { told = enters } in
      let end : Crossings (recorded goes) V w None (event t (Done None r)) z = record { told = leaves } in
      let chain : Chain (Crossings (recorded goes)) [] T o (visit t i made.events r) [] V z = more entry (chain-append (Crossings (recorded goes)) told (more end none)) in
      let all = watched goes [] [] T V o z (visit t i made.events r) chain in
      let kept : KeepsAll T o (visit t i made.events r) z = all.keeps (leaves.ends tt) in
      let seen = visits (Crossings (recorded goes)) prog t i node there made in
      let met_all : AreMet T (visit t i made.events r) = visit_met prog (before T (visit t i made.events r)) t i (before V []) r seen tt in
      record { events = made.events; visits = seen; outside = all.outside; kept = kept.kept ∙ ap (after o.kept) (told_there o.deleted o.kept.watched T (visit t i made.events r) met_all); fate = kept.fate }

  pub watched_entry : (o w : Recorder S) (t : Place) (i : Entry) (r : Reply) (node : Node Own) → T t ≡ Some node → w.incomplete ≡ false →
      Executes (Crossings (recorded goes)) prog T (noted o (event t (In None i))) t (prog.entry i) V w r →
      WatchedEntry goes prog T o t i V (noted w (event t (Done None r))) r
  watched_entry o w t i r node there whole run =
      let x : Prog Own I = prog.entry i in
      let calls = prog.entries_call i in
      let made = follows (Crossings (recorded goes)) prog (fit x calls) run in
      let told = called_on (Crossings (recorded goes)) x calls (made.chain []) in
      let first : Event Own = event t (In None i) in
      let last : Event Own = event t (Done None r) in
      let all = watched goes [] [] T V (noted o first) w made.events told in
      let so : KeepsAll T (noted o first) made.events w = all.keeps whole in
      let seen = visits (Crossings (recorded goes)) prog t i node there made in
      let met_all : AreMet T (visit t i made.events r) = visit_met prog (before T (visit t i made.events r)) t i (before V []) r seen tt in
      let met_within : AreMet T made.events = met_front T made.events (last ∷ []) met_all.1 in
      record {
        events = made.events;
        visits = seen;
        outside = all.outside;
        kept = kept_entry T o.kept w.kept (noted_in w.deleted w.kept last) o.deleted w.deleted t i made.events r met_within so.kept so.fate (noted_there w.deleted w.kept last refl);
        fate = fate_entry o.kept o.deleted w.deleted t i made.events r so.fate;
      }
