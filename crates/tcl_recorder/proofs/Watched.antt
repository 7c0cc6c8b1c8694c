-- What is recorded of a run.
use Rattle.std.proofs.Common.{◌≡◌, Bool, true, false, List, [], ◌∷◌, ◌++◌, Some, None, refl, sym, ◌∙◌, ap, append_assoc}
use Rattle.tcl_core.specs.Endings.{Reply}
use Rattle.tcl_core.specs.Paths.{Place}
use Rattle.tcl_core.specs.Programs.{Prog, Table, Wait, either}
use Rattle.tcl_core.specs.Execution.{Chain, Crossings, Executes, Fits, Open, answers_to, before, calls_after, pending, waits_for, event, hears, more, none}
use Rattle.tcl_core.specs.Execution.Executes.{completed, exited, acted, refused, went, passed, wrapped, wrapped_passed, too_deep, shut, called, called_passed, unreached, called_out, answered, heard, missed, answered_passed, entered, entered_exiting, unfound}
use Rattle.tcl_core.specs.Trees.{Event, Tree, What, effect}
use Rattle.tcl_core.specs.Trees.What.{Charged, Refused, Dropped, Out, In, Done, Back, Unfound}
use Rattle.tcl_core.proofs.Following.{makes}
use Rattle.tcl_run.specs.Outsides.{Going}
use Rattle.tcl_tree.specs.Own.{Own}
use Rattle.tcl_recorder.specs.Laws.{IsNoCrossing, IsWatched, KeepsAll, WatchedRun}
use Rattle.tcl_recorder.specs.Boundary.{boundary}
use Rattle.tcl_recorder.specs.Records.{RecordView}
use Rattle.tcl_recorder.specs.Recording.{Keeps, after, fallen_after, falls, met, met_by, noted_of, recorded, told_of, while_there}
use Rattle.tcl_recorder.specs.declared.recorder.Recorder.{Recorder}
use Rattle.tcl_recorder.proofs.BoundaryLaws.{boundary_append}
use Rattle.tcl_recorder.proofs.Fates.{either_true, or_not}
use Rattle.tcl_recorder.proofs.Meeting.{AreMet, IsMet, run_met}
use Rattle.tcl_recorder.proofs.Notes.{after_none, unchanged}

pub after_parts : (r : RecordView) (σ τ : List (Event Own)) → after (after r σ) τ ≡ after r (σ ++ τ)
after_parts r σ τ = ap (λ (xs : List (Event Own)). record { watched = r.watched; crossings = xs })
    (append_assoc r.crossings (boundary r.watched σ) (boundary r.watched τ) ∙ ap (λ xs. r.crossings ++ xs) (sym (boundary_append r.watched σ τ)))

-- ## Where each entry finds somebody all is told while the interpreter is there

met_one : (T : Tree Own) (p : Place) (x : What Own) → IsMet T p x → met_by x (T p) p ≡ event p x ∷ []
met_one T p (In None i) m = ap (λ n. met_by (In None i) n p) m.1
met_one T p (In (Some h) i) m = refl
met_one T p x m = refl

told_none : (c : Place) (T : Tree Own) (τ : List (Event Own)) → told_of true c T τ ≡ []
told_none c T [] = refl
told_none c T (ev ∷ τ) = ap (λ b. told_of b c (effect ev.place ev.what T) τ) (either_true (falls c ev)) ∙ told_none c (effect ev.place ev.what T) τ

pub told_there : (b : Bool) (c : Place) (T : Tree Own) (τ : List (Event Own)) → AreMet T τ → told_of b c T τ ≡ while_there b c τ
told_there true c T τ m = told_none c T τ
told_there false c T [] m = refl
told_there false c T (ev ∷ τ) m =
    ap (λ l. l ++ told_of (either (falls c ev) false) c (effect ev.place ev.what T) τ) (met_one T ev.place ev.what m.0)
    ∙ ap (λ b. ev ∷ told_of b c (effect ev.place ev.what T) τ) (or_not (falls c ev))
    ∙ ap (λ l. ev ∷ l) (told_there (falls c ev) c (effect ev.place ev.what T) τ m.1)

module _ {S : Type 0} (goes : Going S) where
  pub record IsStep (T : Tree Own) (o : Recorder S) (s : Wait) (ev : Event Own) (u : Recorder S) : Type 0 where
    pub outside : Crossings goes T o.outside s ev u.outside
    pub keeps : u.incomplete ≡ false → Keeps T o ev u

  -- what is no crossing, and drops nobody
  unnoted : (o : Recorder S) (T : Tree Own) (ev : Event Own) → met T ev ≡ ev ∷ [] → IsNoCrossing ev.what → o.kept ≡ after o.kept (noted_of o.deleted T ev)
  unnoted o T ev e f = by o.deleted
    where
      by : (b : Bool) → o.kept ≡ after o.kept (noted_of b T ev)
      by true = after_none o.kept
      by false = unchanged o.kept ev f ∙ sym (ap (after o.kept) e)

  still : (T : Tree Own) (o : Recorder S) (s : Wait) (ev : Event Own) (u : Recorder S) → met T ev ≡ ev ∷ [] → IsNoCrossing ev.what → falls o.kept.watched ev ≡ false → hears goes T o.outside s ev.place ev.what u.outside → u ≡ o → IsStep T o s ev u
  still T o s ev u m f stands h e = record {
    outside = record { told = h };
    keeps = λ w. record {
      whole = sym (ap (λ (r : Recorder S). r.incomplete) e) ∙ w;
      kept = ap (λ (r : Recorder S). r.kept) e ∙ unnoted o T ev m f;
      fate = ap (λ (r : Recorder S). r.deleted) e ∙ sym (ap (λ b. either b o.deleted) stands);
    };
  }

  one : (T : Tree Own) (o : Recorder S) (s : Wait) (p : Place) (x : What Own) (u : Recorder S) → hears (recorded goes) T o s p x u → IsStep T o s (event p x) u
  one T o s p (Out h down i) u t = record { outside = record { told = t.outside }; keeps = t.keeps }
  one T o s p (Back h a) u t = record { outside = record { told = t.outside }; keeps = t.keeps }
  one T o s p (In h i) u t = record { outside = record { told = t.outside }; keeps = t.keeps }
  one T o s p (Done h r) u t = record { outside = record { told = t.outside }; keeps = t.keeps }
  one T o s p Charged u t = record { outside = record { told = t.outside }; keeps = t.keeps }
  one T o s p (Refused m None) u t = record { outside = record { told = t.outside }; keeps = t.keeps }
  one T o s p Dropped u t = record { outside = record { told = t.outside }; keeps = t.keeps }
  one T o s p (Unfound q i c) u t = record { outside = record { told = t.outside }; keeps = t.keeps }
  one T o s p x u t = still T o s (event p x) u refl tt refl (ap (λ (r : Recorder S). r.outside) t) t

  pub step : (T : Tree Own) (o : Recorder S) (s : Wait) (ev : Event Own) (u : Recorder S) → Crossings (recorded goes) T o s ev u → IsStep T o s ev u
  step T o s ev u t = one T o s ev.place ev.what u t.told

  pub watched : (cs ds : Open) (T V : Tree Own) (o z : Recorder S) (τ : List (Event Own)) → Chain (Crossings (recorded goes)) cs T o τ ds V z → IsWatched goes cs T o τ ds V z
  watched cs ds T V o z [] none = record { outside = none; keeps = λ w. record { whole = w; kept = after_none o.kept; fate = refl } }
  watched cs ds T V o z (ev ∷ τ) (more {u = u} a rest) =
      let U : Tree Own = effect ev.place ev.what T in
      let first = step T o (answers_to ev.place ev.what cs) ev u a in
      let later = watched (calls_after T ev.place ev.what cs) ds U V u z τ rest in
      record {
        outside = more first.outside later.outside;
        keeps = λ w. (
            let l : KeepsAll U u τ z = later.keeps w in
            let f : Keeps T o ev u = first.keeps l.whole in
            record {
              whole = f.whole;
              kept = l.kept
                  ∙ ap (λ (r : RecordView). after r (told_of u.deleted r.watched U τ)) f.kept
                  ∙ ap (λ b. after (after o.kept (noted_of o.deleted T ev)) (told_of b o.kept.watched U τ)) f.fate
                  ∙ after_parts o.kept (noted_of o.deleted T ev) (told_of (either (falls o.kept.watched ev) o.deleted) o.kept.watched U τ);
              fate = l.fate ∙ ap (λ (r : RecordView). fallen_after u.deleted r.watched τ) f.kept ∙ ap (λ b. fallen_after b o.kept.watched τ) f.fate;
            }
            );
      }

  pub watched_run : {I : Type 0} (prog : Table Own I) (T V : Tree Own) (o z : Recorder S) (p : Place) (x : Prog Own I) (r : Reply) → z.incomplete ≡ false → Fits x →
      Executes (Crossings (recorded goes)) prog T o p x V z r → WatchedRun goes prog T o p x V z r
  watched_run prog T V o z p x r w f t =
      let made = makes (Crossings (recorded goes)) prog f t in
      let all = watched (pending (waits_for x) []) [] T V o z made.events made.chain in
      let kept : KeepsAll T o made.events z = all.keeps w in
      let met_all : AreMet T made.events = run_met prog (before T made.events) p x (before V []) (Some r) made.runs tt in
      record { events = made.events; runs = made.runs; outside = all.outside; kept = kept.kept ∙ ap (after o.kept) (told_there o.deleted o.kept.watched T made.events met_all); fate = kept.fate }

-- ## Another outside

-- what comes with one outside comes with another one that goes along with it
module _ {O I S R : Type 0} (step : Tree O → S → Wait → Event O → S → Type 0) (goes : Tree O → R → Wait → Event O → R → Type 0) (f : S → R)
    (along : (T : Tree O) (o : S) (s : Wait) (ev : Event O) (u : S) → step T o s ev u → goes T (f o) s ev (f u)) (prog : Table O I) where
  pub comes_along : {T V : Tree O} {o z : S} {p : Place} {x : Prog O I} {r : Reply} → Executes step prog T o p x V z r → Executes goes prog T (f o) p x V (f z) r
  comes_along completed = completed
  comes_along exited = exited
  comes_along (acted x d on s t) = acted x d on (along _ _ _ _ _ s) (comes_along t)
  comes_along (refused x d off s) = refused x d off (along _ _ _ _ _ s)
  comes_along (went a b) = went (comes_along a) (comes_along b)
  comes_along (passed q a) = passed q (comes_along a)
  comes_along (wrapped x d on s a e b) = wrapped x d on (along _ _ _ _ _ s) (comes_along a) (along _ _ _ _ _ e) (comes_along b)
  comes_along (wrapped_passed x q d on s a e) = wrapped_passed x q d on (along _ _ _ _ _ s) (comes_along a) (along _ _ _ _ _ e)
  comes_along (too_deep x d deep s t) = too_deep x d deep (along _ _ _ _ _ s) (comes_along t)
  comes_along (shut x d off s) = shut x d off (along _ _ _ _ _ s)
  comes_along (called a t up at s1 s2 run s3 is s4 rest) = called a t up at (along _ _ _ _ _ s1) (along _ _ _ _ _ s2) (comes_along run) (along _ _ _ _ _ s3) is (along _ _ _ _ _ s4) (comes_along rest)
  comes_along (called_passed a t up at s1 s2 run s3 is q s4) = called_passed a t up at (along _ _ _ _ _ s1) (along _ _ _ _ _ s2) (comes_along run) (along _ _ _ _ _ s3) is q (along _ _ _ _ _ s4)
  comes_along (unreached a up gone s1 s2 rest) = unreached a up gone (along _ _ _ _ _ s1) (along _ _ _ _ _ s2) (comes_along rest)
  comes_along (called_out up s t) = called_out up (along _ _ _ _ _ s) (comes_along t)
  comes_along (answered up fit s t) = answered up fit (along _ _ _ _ _ s) (comes_along t)
  comes_along (heard up fit s t) = heard up fit (along _ _ _ _ _ s) (comes_along t)
  comes_along (missed up fit s t) = missed up fit (along _ _ _ _ _ s) (comes_along t)
  comes_along (answered_passed q up fit s) = answered_passed q up fit (along _ _ _ _ _ s)
  comes_along (entered t i up here s1 run s2 stays rest) = entered t i up here (along _ _ _ _ _ s1) (comes_along run) (along _ _ _ _ _ s2) stays (comes_along rest)
  comes_along (entered_exiting t i up here s1 run s2 s3) = entered_exiting t i up here (along _ _ _ _ _ s1) (comes_along run) (along _ _ _ _ _ s2) (along _ _ _ _ _ s3)
  comes_along (unfound t i up here s rest) = unfound t i up here (along _ _ _ _ _ s) (comes_along rest)

pub unwatched : {I S : Type 0} (goes : Going S) (prog : Table Own I) (T V : Tree Own) (o z : Recorder S) (p : Place) (x : Prog Own I) (r : Reply) →
    Executes (Crossings (recorded goes)) prog T o p x V z r → Executes (Crossings goes) prog T o.outside p x V z.outside r
unwatched {S = S} goes prog T V o z p x r t = comes_along (Crossings (recorded goes)) (Crossings goes) (λ (w : Recorder S). w.outside) (λ T a s ev u g. (step goes T a s ev u g).outside) prog t
