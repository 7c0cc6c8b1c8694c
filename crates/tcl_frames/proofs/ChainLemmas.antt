-- What keeps a chain sound as frames come and go.
use Rattle.std.proofs.Common.{◌≡◌, ℕ, zero, suc, pred, ◌+◌, ◌-◌, ◌<◌, ◌≤◌, ◌⊎◌, inl, inr, true, false, List, [], ◌∷◌, ◌++◌, length, take, drop, reverse, slice_get, Some, None, Result, Ok, Err, refl, sym, ◌∙◌, ap, subst, arith, length-append, length-drop, append-nil}
use Rattle.std.proofs.Math.Seq.{take-append_seam}
use Rattle.std.specs.Prelude.{OnOk, OnErr}
use Rattle.std.specs.Prelude.{nat_le, nat_lt}
use Rattle.std.proofs.lemmas.Bool.Decides.{nat_tests}
use Rattle.std.proofs.lemmas.List.{reverse-append}
use Rattle.std.specs.List.{IsDistinct}
use Rattle.std.specs.Str.{bytes_eq}
use Rattle.tcl_frames.specs.Names.{Text}
use Rattle.tcl_frames.specs.Variables.{Frame, Variables}
use Rattle.tcl_frames.specs.Places.{Levels, links_in}
use Rattle.tcl_frames.specs.Chain.{Aside, Chain, fresh, least, popped, set_aside, put_back, brought_back, with_frames, words_in, words_at}
use Rattle.tcl_frames.specs.Sound.{hop, IsFit, AreFit, AreAside, IsSound, HasRoom}
use Rattle.tcl_frames.specs.declared.fault.FrameFault.{FrameFault}
use Rattle.tcl_frames.specs.declared.fault.FrameFault.TheVariants.{BadLevel}
use Rattle.tcl_frames.specs.declared.fault.FrameError.{FrameError}
use Rattle.tcl_frames.specs.declared.fault.FrameError.TheVariants.{Fault}
use Rattle.tcl_frames.specs.Faults.{Refuses}
use Rattle.tcl_frames.proofs.WalkLemmas.{ends_at}
use Rattle.tcl_frames.proofs.ListLemmas.{within_none, at_true, at_false}
use Rattle.tcl_frames.proofs.SoundLemmas.{fit_nil, fit_cons, fit_head, fit_tail}

-- ## Frames

no_names : IsDistinct bytes_eq []
unfolding IsDistinct
no_names = tt

pub fit_empty : (n : ℕ) (words : List Text) → IsFit n (record { words = words; variables = [] })
fit_empty n words = record {
  unique = no_names;
  within = within_none n;
  end = λ x. ends_at (links_in []) (hop n []) (Some x) refl;
}

pub fit_append : (n : ℕ) (fs gs : Levels) → AreFit n fs → AreFit (n + length fs) gs → AreFit n (fs ++ gs)
fit_append n [] gs h g = let e : n + 0 ≡ n = omega arith in subst (λ k. AreFit k gs) e g
fit_append n (f ∷ fs) gs h g =
    let e : n + suc (length fs) ≡ suc n + length fs = omega arith in
    fit_cons n f (fs ++ gs) (fit_head n f fs h) (fit_append (suc n) fs gs (fit_tail n f fs h) (subst (λ k. AreFit k gs) e g))

pub fit_take : (n k : ℕ) (fs : Levels) → AreFit n fs → AreFit n (take k fs)
fit_take n zero fs h = fit_nil n
fit_take n (suc k) [] h = fit_nil n
fit_take n (suc k) (f ∷ fs) h = fit_cons n f (take k fs) (fit_head n f fs h) (fit_take (suc n) k fs (fit_tail n f fs h))

pub fit_drop : (n k : ℕ) (fs : Levels) → AreFit n fs → AreFit (n + k) (drop k fs)
fit_drop n zero fs h = let e : n ≡ n + 0 = omega arith in subst (λ k. AreFit k fs) e h
fit_drop n (suc k) [] h = fit_nil (n + suc k)
fit_drop n (suc k) (f ∷ fs) h = let e : suc n + k ≡ n + suc k = omega arith in subst (λ m. AreFit m (drop k fs)) e (fit_drop (suc n) k fs (fit_tail n f fs h))

pub length_take : (k : ℕ) (fs : Levels) → k ≤ length fs → length (take k fs) ≡ k
length_take zero fs l = refl
length_take (suc k) [] l = absurd (omega arith)
length_take (suc k) (f ∷ fs) l = ap suc (length_take k fs (omega arith))

-- ## What is set aside

aside_none : (m : ℕ) → AreAside m [] → 1 ≤ m
unfolding AreAside
aside_none m h = h

none_aside : (m : ℕ) → 1 ≤ m → AreAside m []
unfolding AreAside
none_aside m h = h

aside_low : (m : ℕ) (a : Aside) (rest : List Aside) → AreAside m (a ∷ rest) → suc a.above ≤ m
unfolding AreAside
aside_low m a rest h = h.0

aside_fit : (m : ℕ) (a : Aside) (rest : List Aside) → AreAside m (a ∷ rest) → AreFit (suc a.above) a.frames
unfolding AreAside
aside_fit m a rest h = h.1

aside_rest : (m : ℕ) (a : Aside) (rest : List Aside) → AreAside m (a ∷ rest) → AreAside (suc a.above + length a.frames) rest
unfolding AreAside
aside_rest m a rest h = h.2

more_aside : (m : ℕ) (a : Aside) (rest : List Aside) → suc a.above ≤ m → AreFit (suc a.above) a.frames → AreAside (suc a.above + length a.frames) rest → AreAside m (a ∷ rest)
unfolding AreAside
more_aside m a rest low fit later = (low, fit, later)

pub aside_least : (m : ℕ) (as' : List Aside) → AreAside m as' → least as' ≤ m
aside_least m [] h = aside_none m h
aside_least m (a ∷ rest) h = aside_low m a rest h

least_positive : (as' : List Aside) → 1 ≤ least as'
least_positive [] = omega arith
least_positive (a ∷ rest) = omega arith

pub aside_within : (m n : ℕ) (as' : List Aside) → least as' ≤ n → AreAside m as' → AreAside n as'
aside_within m n [] l h = none_aside n l
aside_within m n (a ∷ rest) l h = more_aside n a rest l (aside_fit m a rest h) (aside_rest m a rest h)

room_head : (m : ℕ) (a : Aside) (rest : List Aside) → HasRoom m (a ∷ rest) → suc a.above + length a.frames ≤ m
unfolding HasRoom
room_head m a rest h = h.0

room_tail : (m : ℕ) (a : Aside) (rest : List Aside) → HasRoom m (a ∷ rest) → HasRoom m rest
unfolding HasRoom
room_tail m a rest h = h.1

pub room_none : (m : ℕ) → HasRoom m []
unfolding HasRoom
room_none m = tt

pub room_cons : (m : ℕ) (a : Aside) (rest : List Aside) → suc a.above + length a.frames ≤ m → HasRoom m rest → HasRoom m (a ∷ rest)
unfolding HasRoom
room_cons m a rest l h = (l, h)

pub room_more : (m n : ℕ) (as' : List Aside) → m ≤ n → HasRoom m as' → HasRoom n as'
room_more m n [] l h = room_none n
room_more m n (a ∷ rest) l h = let here = room_head m a rest h in room_cons n a rest (omega arith) (room_more m n rest l (room_tail m a rest h))

-- ## Chains

abbrev pub chain : Levels → List Aside → Chain
chain fs as' = record { frames = fs; aside = as' }

pub sound_fresh : IsSound fresh
sound_fresh = record { fit = fit_cons 0 _ [] (fit_empty 0 []) (fit_nil 1); aside = none_aside 1 (omega arith) }

pub sound_positive : (c : Chain) → IsSound c → 0 < length c.frames
sound_positive c h = let a = aside_least (length c.frames) c.aside h.aside in let b = least_positive c.aside in omega (arith, a, b)

-- other frames, as many
pub sound_same : (fs gs : Levels) (as' : List Aside) → IsSound (chain fs as') → AreFit 0 gs → length gs ≡ length fs → IsSound (chain gs as')
sound_same fs gs as' h fit e = record { fit = fit; aside = subst (λ n. AreAside n as') (sym e) h.aside }

pub sound_pushed : (fs : Levels) (as' : List Aside) (words : List Text) → IsSound (chain fs as') → IsSound (chain (fs ++ record { words = words; variables = [] } ∷ []) as')
sound_pushed fs as' words h =
    let f : Frame = record { words = words; variables = [] } in
    let l = aside_least (length fs) as' h.aside in
    let n = length-append fs (f ∷ []) in
    record {
      fit = fit_append 0 fs (f ∷ []) h.fit (fit_cons (0 + length fs) f [] (fit_empty (0 + length fs) words) (fit_nil (suc (0 + length fs))));
      aside = aside_within (length fs) (length (fs ++ f ∷ [])) as' (omega (arith, l, n)) h.aside;
    }

pub sound_taken : (fs : Levels) (as' : List Aside) (n : ℕ) → least as' ≤ n → n ≤ length fs → IsSound (chain fs as') → IsSound (chain (take n fs) as')
sound_taken fs as' n low high h = record {
  fit = fit_take 0 n fs h.fit;
  aside = subst (λ m. AreAside m as') (sym (length_take n fs high)) (aside_within (length fs) n as' low h.aside);
}

pub sound_set_aside : (fs : Levels) (as' : List Aside) (n : ℕ) → n < length fs → IsSound (chain fs as') → IsSound (chain (take (suc n) fs) (record { above = n; frames = drop (suc n) fs } ∷ as'))
sound_set_aside fs as' n l h =
    let t = length_take (suc n) fs l in
    let d = length-drop (suc n) fs in
    let e : length fs ≡ suc n + length (drop (suc n) fs) = omega (arith, d) in
    let z : 0 + suc n ≡ suc n = omega arith in
    record {
      fit = fit_take 0 (suc n) fs h.fit;
      aside = more_aside (length (take (suc n) fs)) (record { above = n; frames = drop (suc n) fs }) as' (omega (arith, t))
          (subst (λ m. AreFit m (drop (suc n) fs)) z (fit_drop 0 (suc n) fs h.fit))
          (subst (λ m. AreAside m as') e h.aside);
    }

pub sound_back : (fs : Levels) (a : Aside) (rest : List Aside) → IsSound (chain fs (a ∷ rest)) → IsSound (chain (take (suc a.above) fs ++ a.frames) rest)
sound_back fs a rest h =
    let low = aside_low (length fs) a rest h.aside in
    let t = length_take (suc a.above) fs low in
    let n = length-append (take (suc a.above) fs) a.frames in
    let e : suc a.above + length a.frames ≡ length (take (suc a.above) fs ++ a.frames) = omega (arith, t, n) in
    let at : suc a.above ≡ 0 + length (take (suc a.above) fs) = omega (arith, t) in
    record {
      fit = fit_append 0 (take (suc a.above) fs) a.frames (fit_take 0 (suc a.above) fs h.fit) (subst (λ m. AreFit m a.frames) at (aside_fit (length fs) a rest h.aside));
      aside = subst (λ m. AreAside m rest) e (aside_rest (length fs) a rest h.aside);
    }

pub back_low : (fs : Levels) (a : Aside) (rest : List Aside) → IsSound (chain fs (a ∷ rest)) → suc a.above ≤ length fs
back_low fs a rest h = aside_low (length fs) a rest h.aside

pub back_room : (m : ℕ) (a : Aside) (rest : List Aside) → HasRoom m (a ∷ rest) → (suc a.above + length a.frames ≤ m) × HasRoom m rest
back_room m a rest h = (room_head m a rest h, room_tail m a rest h)

-- ## The definitions

pub popped_more : (c : Chain) → least c.aside < length c.frames → popped c ≡ chain (take (pred (length c.frames)) c.frames) c.aside
unfolding popped
popped_more c l = let e : nat_lt (least c.aside) (length c.frames) ≡ true = grind (arith, nat_tests) in at_true _ _ _ e

pub popped_least : (c : Chain) → length c.frames ≤ least c.aside → popped c ≡ c
unfolding popped
popped_least c l = let e : nat_lt (least c.aside) (length c.frames) ≡ false = grind (arith, nat_tests) in at_false _ _ _ e

pub set_aside_past : (c : Chain) (n : ℕ) → length c.frames ≤ n → set_aside c n ≡ Err (BadLevel n)
unfolding set_aside
set_aside_past c n l = let e : nat_le (length c.frames) n ≡ true = grind (arith, nat_tests) in at_true _ _ _ e

pub set_aside_at : (c : Chain) (n : ℕ) → n < length c.frames → set_aside c n ≡ Ok (chain (take (suc n) c.frames) (record { above = n; frames = drop (suc n) c.frames } ∷ c.aside))
unfolding set_aside
set_aside_at c n l = let e : nat_le (length c.frames) n ≡ false = grind (arith, nat_tests) in at_false _ _ _ e

pub refuses_aside : (c : Chain) (n : ℕ) → length c.frames ≤ n → Refuses (Fault (BadLevel n)) (set_aside c n)
refuses_aside c n l = subst (Refuses (Fault (BadLevel n))) (sym (set_aside_past c n l)) refl

pub back_is : (fs : Levels) (as' : List Aside) → brought_back (chain fs as') ≡ put_back fs as'
unfolding brought_back
back_is fs as' = refl

pub reverse_snoc : {A : Type 0} (xs : List A) (x : A) → reverse (xs ++ x ∷ []) ≡ x ∷ reverse xs
reverse_snoc xs x = reverse-append xs (x ∷ [])

pub less : (n : ℕ) → n - 1 ≡ pred n
less zero = refl
less (suc n) = omega arith

-- ## The part that was set aside last

snoc_cases : {A : Type 0} (xs : List A) → (xs ≡ []) ⊎ ((ys : List A) × (x : A) × (xs ≡ ys ++ x ∷ []))
snoc_cases [] = inl refl
snoc_cases (x ∷ xs) =
    elim (snoc_cases xs) [
      | inl e ↦ inr ([], x, ap (λ r. x ∷ r) e)
      | inr s ↦ inr (x ∷ s.0, s.1, ap (λ r. x ∷ r) s.2)
    ]

get_last : {A : Type 0} (ys : List A) (x : A) → slice_get (ys ++ x ∷ []) (length ys) ≡ Some x
get_last [] x = refl
get_last (y ∷ ys) x = get_last ys x

last_of_snoc : {A : Type 0} (ys : List A) (x : A) → slice_get (ys ++ x ∷ []) (length (ys ++ x ∷ []) - 1) ≡ Some x
last_of_snoc ys x =
    let n = length-append ys (x ∷ []) in
    let e : length (ys ++ x ∷ []) - 1 ≡ length ys = omega (arith, n) in
    ap (slice_get (ys ++ x ∷ [])) e ∙ get_last ys x

pub least_some : (xs : List Aside) (a : Aside) → slice_get xs (length xs - 1) ≡ Some a → least (reverse xs) ≡ suc a.above
least_some xs a at =
    elim (snoc_cases xs) [
      | inl e ↦ absurd (nothing a (sym (ap (λ (ys : List Aside). slice_get ys (length ys - 1)) e) ∙ at))
      | inr s ↦
          let found = sym (last_of_snoc s.0 s.1) ∙ sym (ap (λ (ys : List Aside). slice_get ys (length ys - 1)) s.2) ∙ at in
          ap (λ (ys : List Aside). least (reverse ys)) s.2 ∙ ap least (reverse_snoc s.0 s.1) ∙ ap suc (above_same s.1 a found)
    ]
  where
    nothing : (a : Aside) → None ≡ Some a → ⊥
    nothing a e = cc

    above_same : (b a : Aside) → Some b ≡ Some a → b.above ≡ a.above
    above_same b a e = let same : b ≡ a = cc in ap (λ (c : Aside). c.above) same

pub least_none : (xs : List Aside) → slice_get xs (length xs - 1) ≡ None → least (reverse xs) ≡ 1
least_none xs at =
    elim (snoc_cases xs) [
      | inl e ↦ ap (λ (ys : List Aside). least (reverse ys)) e
      | inr s ↦ absurd (something s.1 (sym (last_of_snoc s.0 s.1) ∙ sym (ap (λ (ys : List Aside). slice_get ys (length ys - 1)) s.2) ∙ at))
    ]
  where
    something : (a : Aside) → Some a ≡ None → ⊥
    something a e = cc

pub reverse_popped : (xs ys : List Aside) (a : Aside) → xs ≡ ys ++ a ∷ [] → reverse xs ≡ a ∷ reverse ys
reverse_popped xs ys a e = ap reverse e ∙ reverse_snoc ys a

pub reverse_empty : (xs ys : List Aside) → xs ≡ ys ++ [] → length xs ≡ 0 → reverse xs ≡ []
reverse_empty [] ys e l = refl
reverse_empty (x ∷ xs) ys e l = absurd (omega arith)

pub words_there : (fs : Levels) (n : ℕ) (f : Frame) → slice_get fs n ≡ Some f → Some f.words ≡ words_at fs n
unfolding words_at
words_there fs n f e = sym (ap words_in e)

pub words_nowhere : (fs : Levels) (n : ℕ) → slice_get fs n ≡ None → None ≡ words_at fs n
unfolding words_at
words_nowhere fs n e = sym (ap words_in e)

-- ## Changes of the frames of a chain

pub with_ok : (fs gs : Levels) (as' : List Aside) (o : Result Levels FrameFault) → o ≡ Ok gs → with_frames (chain fs as') o ≡ Ok (chain gs as')
with_ok fs gs as' o e = ap (with_frames (chain fs as')) e

pub with_refused : (e : FrameError) (c : Chain) (o : Result Levels FrameFault) → Refuses e o → Refuses e (with_frames c o)
with_refused e c (Ok fs) h = h
with_refused e c (Err f) h = h

-- ## What the code does to the fields

frame_is : (f : Frame) (words : List Text) → f.words ≡ words → f.variables ≡ [] → f ≡ record { words = words; variables = [] }
frame_is f words w v = ap (λ x. record { words = x; variables = f.variables }) w ∙ ap (λ (x : Variables). record { words = words; variables = x }) v

pub fresh_is : (fs gs : Levels) (f : Frame) (xs : List Aside) (ws : List Text) → fs ≡ gs ++ f ∷ [] → gs ≡ [] → f.words ≡ ws → ws ≡ [] → f.variables ≡ [] → xs ≡ [] → chain fs (reverse xs) ≡ fresh
fresh_is fs gs f xs ws e g w n v x =
    ap (λ (hs : Levels). chain hs (reverse xs)) (e ∙ ap (λ (hs : Levels). hs ++ f ∷ []) g ∙ ap (λ (k : Frame). k ∷ []) (frame_is f [] (w ∙ n) v))
    ∙ ap (λ (ys : List Aside). chain (record { words = []; variables = [] } ∷ []) (reverse ys)) x

pub sound_new : (fs gs : Levels) (f : Frame) (xs : List Aside) (ws : List Text) (m : ℕ) → fs ≡ gs ++ f ∷ [] → gs ≡ [] → f.words ≡ ws → ws ≡ [] → f.variables ≡ [] → xs ≡ [] → IsSound (chain fs (reverse xs)) × HasRoom m (reverse xs)
sound_new fs gs f xs ws m e g w n v x =
    (subst IsSound (sym (fresh_is fs gs f xs ws e g w n v x)) sound_fresh, subst (λ (ys : List Aside). HasRoom m (reverse ys)) (sym x) (room_none m))

pub sound_push : (fs gs : Levels) (f : Frame) (as' : List Aside) (ws : List Text) (m n : ℕ) → gs ≡ fs ++ f ∷ [] → f.words ≡ ws → f.variables ≡ [] → m ≤ n → IsSound (chain fs as') × HasRoom m as' → IsSound (chain gs as') × HasRoom n as'
sound_push fs gs f as' ws m n e w v l h =
    (subst (λ (hs : Levels). IsSound (chain hs as')) (sym (e ∙ ap (λ (k : Frame). fs ++ k ∷ []) (frame_is f ws w v))) (sound_pushed fs as' ws h.0), room_more m n as' l h.1)

pub sound_kept : (fs gs : Levels) (as' : List Aside) (m n : ℕ) → gs ≡ fs → m ≤ n → IsSound (chain fs as') × HasRoom m as' → IsSound (chain gs as') × HasRoom n as'
sound_kept fs gs as' m n e l h = (subst (λ (hs : Levels). IsSound (chain hs as')) (sym e) h.0, room_more m n as' l h.1)

pub one_more : (n : ℕ) → n + 1 ≡ suc n
one_more n = omega arith

pub sound_cut : (fs ks gs : Levels) (xs ys zs : List Aside) (n m : ℕ) → ks ≡ take (n + 1) fs → gs ≡ drop (n + 1) fs → ys ≡ zs ++ record { above = n; frames = gs } ∷ [] → zs ≡ xs → n < length fs → length fs ≤ m
    → IsSound (chain fs (reverse xs)) × HasRoom m (reverse xs) → IsSound (chain ks (reverse ys)) × HasRoom m (reverse ys)
sound_cut fs ks gs xs ys zs n m k g y z l room h =
    let kept = k ∙ ap (λ i. take i fs) (one_more n) in
    let taken = g ∙ ap (λ i. drop i fs) (one_more n) in
    let part = reverse_popped ys zs (record { above = n; frames = gs }) y ∙ ap (λ (us : Levels). record { above = n; frames = us } ∷ reverse zs) taken ∙ ap (λ (us : List Aside). record { above = n; frames = drop (suc n) fs } ∷ reverse us) z in
    let d = length-drop (suc n) fs in (
      subst (λ (us : List Aside). IsSound (chain ks us)) (sym part) (subst (λ (us : Levels). IsSound (chain us (record { above = n; frames = drop (suc n) fs } ∷ reverse xs))) (sym kept) (sound_set_aside fs (reverse xs) n l h.0)),
      subst (HasRoom m) (sym part) (room_cons m (record { above = n; frames = drop (suc n) fs }) (reverse xs) (omega (arith, d)) h.1),
    )

pub cut_is : (fs ks gs : Levels) (xs ys zs : List Aside) (n : ℕ) (c : Chain) → ks ≡ take (n + 1) fs → gs ≡ drop (n + 1) fs → ys ≡ zs ++ record { above = n; frames = gs } ∷ [] → zs ≡ xs → n < length fs → chain fs (reverse xs) ≡ c
    → set_aside c n ≡ Ok (chain ks (reverse ys))
cut_is fs ks gs xs ys zs n c k g y z l is =
    let kept = k ∙ ap (λ i. take i fs) (one_more n) in
    let taken = g ∙ ap (λ i. drop i fs) (one_more n) in
    let part = reverse_popped ys zs (record { above = n; frames = gs }) y ∙ ap (λ (us : Levels). record { above = n; frames = us } ∷ reverse zs) taken ∙ ap (λ (us : List Aside). record { above = n; frames = drop (suc n) fs } ∷ reverse us) z in
    ap (λ (d : Chain). set_aside d n) (sym is)
    ∙ set_aside_at (chain fs (reverse xs)) n l
    ∙ ap (λ (us : Levels). Ok (chain us (record { above = n; frames = drop (suc n) fs } ∷ reverse xs))) (sym kept)
    ∙ ap (λ (us : List Aside). Ok (chain ks us)) (sym part)

pub refuses_cut : (fs : Levels) (xs : List Aside) (n : ℕ) (c : Chain) → chain fs (reverse xs) ≡ c → length fs ≤ n → Refuses (Fault (BadLevel n)) (set_aside c n)
refuses_cut fs xs n c is l = subst (λ (d : Chain). Refuses (Fault (BadLevel n)) (set_aside d n)) is (refuses_aside (chain fs (reverse xs)) n l)

less_than : (m n : ℕ) → nat_lt m n ≡ true → m < n
less_than m n h = grind (arith, nat_tests)

not_less : (m n : ℕ) → nat_lt m n ≡ false → n ≤ m
not_less m n h = grind (arith, nat_tests)

pub sound_pop : (fs gs : Levels) (xs : List Aside) (n m : ℕ) → gs ≡ take (n - 1) fs → n ≡ length fs → nat_lt (least (reverse xs)) n ≡ true → IsSound (chain fs (reverse xs)) × HasRoom m (reverse xs) → IsSound (chain gs (reverse xs)) × HasRoom m (reverse xs)
sound_pop fs gs xs n m e c t h =
    let l = less_than (least (reverse xs)) n t in
    (subst (λ (us : Levels). IsSound (chain us (reverse xs))) (sym e) (sound_taken fs (reverse xs) (n - 1) (omega arith) (omega arith) h.0), h.1)

pub pop_is : (fs gs : Levels) (xs : List Aside) (n : ℕ) (c : Chain) → gs ≡ take (n - 1) fs → n ≡ length fs → nat_lt (least (reverse xs)) n ≡ true → chain fs (reverse xs) ≡ c → chain gs (reverse xs) ≡ popped c
pop_is fs gs xs n c e count t is =
    let l = less_than (least (reverse xs)) n t in
    ap (λ (us : Levels). chain us (reverse xs)) (e ∙ ap (λ i. take i fs) (less n ∙ ap pred count))
    ∙ sym (popped_more (chain fs (reverse xs)) (omega arith))
    ∙ ap popped is

pub no_pop_is : (fs : Levels) (xs : List Aside) (n : ℕ) (c : Chain) → n ≡ length fs → nat_lt (least (reverse xs)) n ≡ false → chain fs (reverse xs) ≡ c → c ≡ popped c
no_pop_is fs xs n c count t is =
    let l = not_less (least (reverse xs)) n t in
    subst (λ (d : Chain). d ≡ popped d) is (sym (popped_least (chain fs (reverse xs)) (omega arith)))

-- what bringing back rests on
pub record Back (fs : Levels) (a : Aside) (rest : List Aside) (m : ℕ) : Type 0 where
  pub low : suc a.above ≤ length fs
  pub room : suc a.above + length a.frames ≤ m
  pub sound : IsSound (chain (take (suc a.above) fs ++ a.frames) rest)
  pub later : HasRoom m rest

pub back_of : (fs : Levels) (xs ys : List Aside) (a : Aside) (m : ℕ) → xs ≡ ys ++ a ∷ [] → IsSound (chain fs (reverse xs)) × HasRoom m (reverse xs) → Back fs a (reverse ys) m
back_of fs xs ys a m e h =
    let sound = subst (λ (us : List Aside). IsSound (chain fs us)) (reverse_popped xs ys a e) h.0 in
    let room = subst (HasRoom m) (reverse_popped xs ys a e) h.1 in
    record {
      low = back_low fs a (reverse ys) sound;
      room = (back_room m a (reverse ys) room).0;
      sound = sound_back fs a (reverse ys) sound;
      later = (back_room m a (reverse ys) room).1;
    }

pub back_comes : (fs : Levels) (xs ys : List Aside) (a : Aside) (c : Chain) → xs ≡ ys ++ a ∷ [] → chain fs (reverse xs) ≡ c → chain (take (suc a.above) fs ++ a.frames) (reverse ys) ≡ brought_back c
back_comes fs xs ys a c e is = sym (back_is fs (a ∷ reverse ys)) ∙ ap (λ (us : List Aside). brought_back (chain fs us)) (sym (reverse_popped xs ys a e)) ∙ ap brought_back is

pub back_none : (fs : Levels) (xs ys : List Aside) (c : Chain) → xs ≡ ys ++ [] → length xs ≡ 0 → chain fs (reverse xs) ≡ c → chain fs (reverse ys) ≡ brought_back c
back_none fs xs ys c e l is =
    let none = reverse_empty xs ys e l in
    let other = ap reverse (sym (append-nil ys) ∙ sym e) in
    ap (chain fs) (other ∙ none) ∙ sym (back_is fs []) ∙ ap (λ (us : List Aside). brought_back (chain fs us)) (sym none) ∙ ap brought_back is

-- ## A slice that was changed

pub whole_again : (n : ℕ) (fs gs : Levels) → n ≡ length fs → length gs ≡ length fs → take n (gs ++ drop (length gs) fs) ≡ gs
whole_again n fs gs e l =
    ap (λ k. take k (gs ++ drop (length gs) fs)) (e ∙ sym l) ∙ take-append_seam gs (drop (length gs) fs)

pub fit_either : {A E : Type 0} (r : Result A E) (o : Result Levels FrameFault) (fs gs : Levels) → AreFit 0 fs → (o ≡ Ok gs → AreFit 0 gs) → OnOk r (o ≡ Ok gs) → OnErr r (gs ≡ fs) → AreFit 0 gs
fit_either (Ok x) o fs gs fit h e f = h e
fit_either (Err x) o fs gs fit h e f = subst (AreFit 0) (sym f) fit

pub sound_changed : (fs gs hs : Levels) (as' : List Aside) (m : ℕ) → hs ≡ gs → AreFit 0 gs → length gs ≡ length fs → IsSound (chain fs as') × HasRoom m as' → IsSound (chain hs as') × HasRoom m as'
sound_changed fs gs hs as' m e fit l h = (subst (λ (us : Levels). IsSound (chain us as')) (sym e) (sound_same fs gs as' h.0 fit l), h.1)
