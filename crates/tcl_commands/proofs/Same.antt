-- A variable that is set to what it holds changes nothing.
use Rattle.std.proofs.Common.{◌≡◌, ℕ, zero, suc, Bool, true, false, cond, List, [], ◌∷◌, Option, Some, None, refl, sym, ap, ◌∙◌}
use Rattle.std.specs.Prelude.{Result, Ok, Err}
use Rattle.std.specs.Str.{bytes_eq}
use Rattle.std.specs.Map.{lookup}
use Rattle.indexmap.specs.IndexMap.{insert_entry}
use Rattle.tcl_frames.specs.Chain.{Chain, read, written, with_frames, after_set, bind, bound_to, on_level, by_place, place_named}
use Rattle.tcl_frames.specs.Places.{Levels, Spot, bound}
use Rattle.tcl_frames.specs.Access.{value_of, assigned, read_element}
use Rattle.tcl_frames.specs.Names.{Text}
use Rattle.tcl_frames.specs.Variables.{Part, Variables}
use Rattle.tcl_frames.specs.Variables.Part.{whole, element, nested}
use Rattle.tcl_frames.specs.declared.variable.Variable.{Variable}
use Rattle.tcl_frames.specs.declared.variable.Variable.TheVariants.{Scalar, Array, Link}
use Rattle.tcl_frames.specs.declared.fault.FrameFault.{FrameFault}

insert_by : {V : Type 0} (e : Text × V) (es : List (Text × V)) (k : Text) (v : V) (b : Bool) → (lookup (bytes_eq k) es ≡ Some v → insert_entry bytes_eq es k v ≡ es) →
    cond b (Some e.1) (lookup (bytes_eq k) es) ≡ Some v → cond b ((e.0, v) ∷ es) (e ∷ insert_entry bytes_eq es k v) ≡ e ∷ es
insert_by {V} e es k v true on g = let same : e.1 ≡ v = cc in ap (λ (x : V). (e.0, x) ∷ es) (sym same)
insert_by {V} e es k v false on g = ap (λ (xs : List (Text × V)). e ∷ xs) (on g)

insert_same : {V : Type 0} (es : List (Text × V)) (k : Text) (v : V) → lookup (bytes_eq k) es ≡ Some v → insert_entry bytes_eq es k v ≡ es
insert_same [] k v h = let clash : None ≡ Some v = h in cc
insert_same (e ∷ es) k v h = insert_by e es k v (bytes_eq k e.0) (insert_same es k v) h

level_same : (fs : Levels) (n : ℕ) (x : Text) (v : Variable) → bound fs n x ≡ Some v → on_level fs n (λ es. insert_entry bytes_eq es x v) ≡ fs
unfolding bound
level_same [] n x v h = refl
level_same (f ∷ fs) zero x v h = ap (λ (es : Variables). record { words = f.words; variables = es } ∷ fs) (insert_same f.variables x v h)
level_same (f ∷ fs) (suc n) x v h = ap (λ (gs : Levels). f ∷ gs) (level_same fs n x v h)

bind_same : (fs : Levels) (n : ℕ) (x : Text) (v : Variable) → bound fs n x ≡ Some v → bind fs n x v ≡ fs
unfolding bind
bind_same fs n x v h = level_same fs n x v h

-- what is assigned is what there was
assigned_same : (part : Part) (o : Option Variable) (t x : Text) (v : Variable) → value_of part o x ≡ Ok t → assigned part o t x ≡ Ok v → o ≡ Some v
assigned_same whole None t x v h g = cc
assigned_same whole (Some (Scalar s)) t x v h g = let same : ◌≡◌ {A = Result Text FrameFault} (Ok s) (Ok t) = h in cc
assigned_same whole (Some (Array es)) t x v h g = cc
assigned_same whole (Some (Link q)) t x v h g = cc
assigned_same (element k) None t x v h g = cc
assigned_same (element k) (Some (Scalar s)) t x v h g = cc
assigned_same (element k) (Some (Array es)) t x v h g =
    let there = by (lookup (bytes_eq k) es) h in
    let same = insert_same es k t there in
    let made : ◌≡◌ {A = Result Variable FrameFault} (Ok (Array (insert_entry bytes_eq es k t))) (Ok v) = g in
    let is : Array (insert_entry bytes_eq es k t) ≡ v = cc in
    ap Some (ap Array (sym same) ∙ is)
  where
    by : (o : Option Text) → read_element o x ≡ Ok t → o ≡ Some t
    by None e = let clash : read_element None x ≡ Ok t = e in cc
    by (Some s) e = let plain : ◌≡◌ {A = Result Text FrameFault} (Ok s) (Ok t) = e in cc
assigned_same (element k) (Some (Link q)) t x v h g = cc
assigned_same nested o t x v h g = cc

bound_same : (fs gs : Levels) (p : Spot) (t x : Text) → value_of p.part (bound fs p.level p.name) x ≡ Ok t → bound_to fs p (assigned p.part (bound fs p.level p.name) t x) ≡ Ok gs → gs ≡ fs
bound_same fs gs p t x h g = by (assigned p.part (bound fs p.level p.name) t x) refl g
  where
    by : (r : Result Variable FrameFault) → assigned p.part (bound fs p.level p.name) t x ≡ r → bound_to fs p r ≡ Ok gs → gs ≡ fs
    by (Ok v) e f =
        let same = bind_same fs p.level p.name v (assigned_same p.part (bound fs p.level p.name) t x v h e) in
        let made : ◌≡◌ {A = Result Levels FrameFault} (Ok (bind fs p.level p.name v)) (Ok gs) = f in
        let is : bind fs p.level p.name v ≡ gs = cc in
        sym is ∙ same
    by (Err z) e f = let clash : ◌≡◌ {A = Result Levels FrameFault} (Err z) (Ok gs) = f in cc

written_same : (fs gs : Levels) (x t : Text) → read fs x ≡ Ok t → written fs x t ≡ Ok gs → gs ≡ fs
unfolding read written
written_same fs gs x t h g = by (place_named fs x) h g
  where
    by : (o : Option Spot) → by_place o x (λ p. value_of p.part (bound fs p.level p.name) x) ≡ Ok t → by_place o x (λ p. bound_to fs p (assigned p.part (bound fs p.level p.name) t x)) ≡ Ok gs → gs ≡ fs
    by None a b = let clash : by_place {A = Levels} None x (λ p. bound_to fs p (assigned p.part (bound fs p.level p.name) t x)) ≡ Ok gs = b in cc
    by (Some p) a b = bound_same fs gs p t x a b

pub set_same : (c d : Chain) (x t : Text) → read c.frames x ≡ Ok t → after_set c x t ≡ Ok d → d ≡ c
set_same c d x t h g = by (written c.frames x t) refl g
  where
    by : (r : Result Levels FrameFault) → written c.frames x t ≡ r → with_frames c r ≡ Ok d → d ≡ c
    by (Ok fs) e f =
        let same = written_same c.frames fs x t h e in
        let made : ◌≡◌ {A = Result Chain FrameFault} (Ok (record { frames = fs; aside = c.aside })) (Ok d) = f in
        let is : record { frames = fs; aside = c.aside } ≡ d = cc in
        sym is ∙ ap (λ (gs : Levels). record { frames = gs; aside = c.aside }) same
    by (Err z) e f = let clash : ◌≡◌ {A = Result Chain FrameFault} (Err z) (Ok d) = f in cc
