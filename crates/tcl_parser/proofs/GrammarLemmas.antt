-- The forms of a script's text that hold no other: their rules and the functions that read them say the same.
use Rattle.std.proofs.Common.{◌≡◌, ℕ, zero, suc, ◌-◌, ◌<◌, ◌∙◌, Bool, true, false, cond, ◌&&◌, ◌||◌, ◌==◌, List, [], ◌∷◌, ◌++◌, length, drop, Result, Ok, Err, refl, ap, sym, subst, inl, inr, arith, length-drop}
use Rattle.std.specs.List.{prefix_len}
use Rattle.std.proofs.lemmas.Bool.{cases_Bool, or_from, or_parts, and_parts, and_left, and_right, and_from, or_left}
use Rattle.std.proofs.lemmas.Bool.Decides.{nat_tests}
use Rattle.tcl_text.specs.Backslash.{is_blank}
use Rattle.tcl_parser.specs.declared.fault.Fault.{Fault}
use Rattle.tcl_parser.specs.declared.fault.Fault.TheVariants.{CloseBrace}
use Rattle.tcl_parser.specs.declared.scan.Run.{Run}
use Rattle.tcl_parser.specs.Characters.{is_white, is_separator, is_name_character}
use Rattle.tcl_parser.specs.Texts.{begins_with}
use Rattle.tcl_parser.specs.Runs.{ends_run, run_of, after_run}
use Rattle.tcl_parser.specs.Reading.{after_white, after_gap, command_ends, after_command, put, in_braces, after_name, before}
use Rattle.tcl_parser.specs.Grammar.{White, begins_white, Comment, Gap, begins_gap, CommandEnd, Braced, Name, name_goes_on, Lacks, Meets}
use Rattle.tcl_parser.specs.Grammar.White.{no_white, space, white_line}
use Rattle.tcl_parser.specs.Grammar.Comment.{comment_ends, comment_text_ends, comment_pair, comment_backslash, comment_character}
use Rattle.tcl_parser.specs.Grammar.Gap.{no_gap, between, gap_line, gap_comment}
use Rattle.tcl_parser.specs.Grammar.CommandEnd.{text_ends, separator, bracket_comes}
use Rattle.tcl_parser.specs.Grammar.Braced.{brace_matches, brace_opens, brace_closes, brace_line, brace_pair, brace_character}
use Rattle.tcl_parser.specs.Grammar.Name.{name_ends, name_character, name_colons, name_colon}
use Rattle.tcl_parser.proofs.GapLemmas as gaps
use Rattle.tcl_parser.proofs.NameLemmas as names
use Rattle.tcl_parser.proofs.BraceLemmas as braces
use Rattle.tcl_parser.proofs.RunLemmas.{after_run_goes_on, after_run_stops, run_of_goes_on, run_of_stops}
use Rattle.tcl_parser.proofs.EndLemmas.{before-front}

pub is_eq : (m n : ℕ) → (m == n) ≡ true → m ≡ n
is_eq m n h = grind (arith, nat_tests)

-- ## White space

-- what is known of the text behind white space
pub record Whitened (s t : List ℕ) : Type 0 where
  pub white : White s t
  pub stops : begins_white t ≡ false

stops_here : (b : ℕ) (t : List ℕ) → is_white b ≡ false → ((b == 92) && begins_with 10 t) ≡ false → Whitened (b ∷ t) (after_white (b ∷ t))
stops_here b t h n = subst (Whitened (b ∷ t)) (sym (gaps.stops_at b t h n)) (record { white = no_white; stops = or_from _ _ h n })

goes_on : (b : ℕ) (t : List ℕ) → is_white b ≡ true → Whitened t (after_white t) → Whitened (b ∷ t) (after_white (b ∷ t))
goes_on b t h w = subst (Whitened (b ∷ t)) (sym (gaps.on_head b t h)) (record { white = space h w.white; stops = w.stops })

line_on : (b c : ℕ) (t : List ℕ) → b ≡ 92 → c ≡ 10 → Whitened t (after_white t) → Whitened (b ∷ c ∷ t) (after_white (b ∷ c ∷ t))
line_on b c t e f w =
    let same : b ∷ c ∷ t ≡ 92 ∷ 10 ∷ t = λ i. e i ∷ f i ∷ t in
    subst (λ x. Whitened x (after_white x)) (sym same) (subst (Whitened (92 ∷ 10 ∷ t)) (sym (gaps.on_line t)) (record { white = white_line w.white; stops = w.stops }))

nothing_white : Whitened [] (after_white [])
unfolding after_white
nothing_white = record { white = no_white; stops = refl }

pub whitened : (s : List ℕ) → Whitened s (after_white s)
whitened [] = nothing_white
whitened (b ∷ []) =
    elim (cases_Bool (is_white b)) [
      | inl h ↦ goes_on b [] h nothing_white
      | inr h ↦ stops_here b [] h (and_right _ _ refl)
    ]
whitened (b ∷ c ∷ s) =
    elim (cases_Bool (is_white b)) [
      | inl h ↦ goes_on b (c ∷ s) h (whitened (c ∷ s))
      | inr h ↦ elim (cases_Bool ((b == 92) && (c == 10))) [
        | inl k ↦ let both = and_parts (b == 92) (c == 10) k in line_on b c s (is_eq b 92 both.0) (is_eq c 10 both.1) (whitened s)
        | inr k ↦ stops_here b (c ∷ s) h k
      ]
    ]

empty_white : after_white [] ≡ []
unfolding after_white
empty_white = refl

empty_gap : after_gap false [] ≡ []
unfolding after_gap
empty_gap = refl

tail_eq : (c d : ℕ) (u v : List ℕ) → c ∷ u ≡ d ∷ v → u ≡ v
tail_eq c d u v e = cc

white_stops : (s : List ℕ) → begins_white s ≡ false → after_white s ≡ s
white_stops [] h = empty_white
white_stops (b ∷ t) h = let parts = or_parts (is_white b) ((b == 92) && begins_with 10 t) h in gaps.stops_at b t parts.0 parts.1

pub after_white-White : {s t : List ℕ} → White s t → begins_white t ≡ false → after_white s ≡ t
after_white-White (no_white {s = s}) n = white_stops s n
after_white-White (space {b = b} {s = s} h w) n = gaps.on_head b s h ∙ after_white-White w n
after_white-White (white_line {s = s} w) n = gaps.on_line s ∙ after_white-White w n

-- ## Comments and what stands before a command

pub after_gap-Comment : {s t : List ℕ} → Comment s t → after_gap true s ≡ after_gap false t
after_gap-Comment (comment_ends {s = s}) = gaps.comment_newline s
after_gap-Comment comment_text_ends = gaps.both_empty
after_gap-Comment (comment_pair {b = b} {s = s} h) = gaps.comment_pair b s ∙ after_gap-Comment h
after_gap-Comment comment_backslash = gaps.comment_lone ∙ gaps.both_empty
after_gap-Comment (comment_character {b = b} {s = s} n m h) = gaps.comment_plain b s n m ∙ after_gap-Comment h

gap_stops : (s : List ℕ) → begins_gap s ≡ false → after_gap false s ≡ s
gap_stops [] h = empty_gap
gap_stops (b ∷ t) h =
    let outer = or_parts (is_white b || is_separator b || (b == 35)) ((b == 92) && begins_with 10 t) h in
    let inner = or_parts (is_white b || is_separator b) (b == 35) outer.0 in
    gaps.gap_stops_at b t inner.0 inner.1 outer.1

pub after_gap-Gap : {s t : List ℕ} → Gap s t → begins_gap t ≡ false → after_gap false s ≡ t
after_gap-Gap (no_gap {s = s}) n = gap_stops s n
after_gap-Gap (between {b = b} {s = s} h g) n = gaps.gap_head b s h ∙ after_gap-Gap g n
after_gap-Gap (gap_line {s = s} g) n = gaps.gap_newline s ∙ after_gap-Gap g n
after_gap-Gap (gap_comment {s = s} c g) n = gaps.gap_hash s ∙ after_gap-Comment c ∙ after_gap-Gap g n

-- what is known of the text behind a gap, and behind a comment and the gap after it
pub record Cleared (s t : List ℕ) : Type 0 where
  pub gap : Gap s t
  pub stops : begins_gap t ≡ false

record Commented (s t : List ℕ) : Type 0 where
  behind : List ℕ
  comment : Comment s behind
  gap : Gap behind t
  stops : begins_gap t ≡ false

cleared_stop : (b : ℕ) (t : List ℕ) → (is_white b || is_separator b) ≡ false → (b == 35) ≡ false → ((b == 92) && begins_with 10 t) ≡ false → Cleared (b ∷ t) (after_gap false (b ∷ t))
cleared_stop b t h n l = subst (Cleared (b ∷ t)) (sym (gaps.gap_stops_at b t h n l)) (record { gap = no_gap; stops = or_from _ _ (or_from _ _ h n) l })

cleared_on : (b : ℕ) (t : List ℕ) → (is_white b || is_separator b) ≡ true → Cleared t (after_gap false t) → Cleared (b ∷ t) (after_gap false (b ∷ t))
cleared_on b t h w = subst (Cleared (b ∷ t)) (sym (gaps.gap_head b t h)) (record { gap = between h w.gap; stops = w.stops })

cleared_hash : (b : ℕ) (t : List ℕ) → b ≡ 35 → Commented t (after_gap true t) → Cleared (b ∷ t) (after_gap false (b ∷ t))
cleared_hash b t e w =
    subst (λ x. Cleared (x ∷ t) (after_gap false (x ∷ t))) (sym e) (subst (Cleared (35 ∷ t)) (sym (gaps.gap_hash t)) (record { gap = gap_comment w.comment w.gap; stops = w.stops }))

cleared_line : (b c : ℕ) (t : List ℕ) → b ≡ 92 → c ≡ 10 → Cleared t (after_gap false t) → Cleared (b ∷ c ∷ t) (after_gap false (b ∷ c ∷ t))
cleared_line b c t e f w =
    let same : b ∷ c ∷ t ≡ 92 ∷ 10 ∷ t = λ i. e i ∷ f i ∷ t in
    subst (λ x. Cleared x (after_gap false x)) (sym same) (subst (Cleared (92 ∷ 10 ∷ t)) (sym (gaps.gap_newline t)) (record { gap = gap_line w.gap; stops = w.stops }))

commented_end : (b : ℕ) (t : List ℕ) → b ≡ 10 → Cleared t (after_gap false t) → Commented (b ∷ t) (after_gap true (b ∷ t))
commented_end b t e w =
    subst (λ x. Commented (x ∷ t) (after_gap true (x ∷ t))) (sym e) (subst (Commented (10 ∷ t)) (sym (gaps.comment_newline t)) (record { behind = t; comment = comment_ends; gap = w.gap; stops = w.stops }))

commented_on : (b : ℕ) (t : List ℕ) → (b == 10) ≡ false → (b == 92) ≡ false → Commented t (after_gap true t) → Commented (b ∷ t) (after_gap true (b ∷ t))
commented_on b t n m w =
    subst (Commented (b ∷ t)) (sym (gaps.comment_plain b t n m)) (record { behind = w.behind; comment = comment_character n m w.comment; gap = w.gap; stops = w.stops })

commented_pair : (b c : ℕ) (t : List ℕ) → b ≡ 92 → Commented t (after_gap true t) → Commented (b ∷ c ∷ t) (after_gap true (b ∷ c ∷ t))
commented_pair b c t e w =
    subst (λ x. Commented (x ∷ c ∷ t) (after_gap true (x ∷ c ∷ t))) (sym e) (subst (Commented (92 ∷ c ∷ t)) (sym (gaps.comment_pair c t)) (record { behind = w.behind; comment = comment_pair w.comment; gap = w.gap; stops = w.stops }))

commented_last : (b : ℕ) → b ≡ 92 → Commented (b ∷ []) (after_gap true (b ∷ []))
commented_last b e =
    subst (λ x. Commented (x ∷ []) (after_gap true (x ∷ []))) (sym e) (subst (Commented (92 ∷ [])) (sym (gaps.comment_lone ∙ gaps.both_empty ∙ empty_gap)) (record { behind = []; comment = comment_backslash; gap = no_gap; stops = refl }))

nothing_cleared : Cleared [] (after_gap false [])
nothing_cleared = subst (Cleared []) (sym empty_gap) (record { gap = no_gap; stops = refl })

nothing_commented : Commented [] (after_gap true [])
nothing_commented = subst (Commented []) (sym (gaps.both_empty ∙ empty_gap)) (record { behind = []; comment = comment_text_ends; gap = no_gap; stops = refl })

-- the two together, by recursion
record Both (s : List ℕ) : Type 0 where
  outside : Cleared s (after_gap false s)
  inside : Commented s (after_gap true s)

comment_at : (b : ℕ) (t : List ℕ) → Both t → ((u : List ℕ) (c : ℕ) → t ≡ c ∷ u → Both u) → Commented (b ∷ t) (after_gap true (b ∷ t))
comment_at b [] w more =
    elim (cases_Bool (b == 10)) [
      | inl h ↦ commented_end b [] (is_eq b 10 h) w.outside
      | inr h ↦ elim (cases_Bool (b == 92)) [
        | inl k ↦ commented_last b (is_eq b 92 k)
        | inr k ↦ commented_on b [] h k w.inside
      ]
    ]
comment_at b (c ∷ u) w more =
    elim (cases_Bool (b == 10)) [
      | inl h ↦ commented_end b (c ∷ u) (is_eq b 10 h) w.outside
      | inr h ↦ elim (cases_Bool (b == 92)) [
        | inl k ↦ commented_pair b c u (is_eq b 92 k) (more u c refl).inside
        | inr k ↦ commented_on b (c ∷ u) h k w.inside
      ]
    ]

gap_at : (b : ℕ) (t : List ℕ) → Both t → ((u : List ℕ) (c : ℕ) → t ≡ c ∷ u → Both u) → Cleared (b ∷ t) (after_gap false (b ∷ t))
gap_at b [] w more =
    elim (cases_Bool (is_white b || is_separator b)) [
      | inl h ↦ cleared_on b [] h w.outside
      | inr h ↦ elim (cases_Bool (b == 35)) [
        | inl k ↦ cleared_hash b [] (is_eq b 35 k) w.inside
        | inr k ↦ cleared_stop b [] h k (and_right _ _ refl)
      ]
    ]
gap_at b (c ∷ u) w more =
    elim (cases_Bool (is_white b || is_separator b)) [
      | inl h ↦ cleared_on b (c ∷ u) h w.outside
      | inr h ↦ elim (cases_Bool (b == 35)) [
        | inl k ↦ cleared_hash b (c ∷ u) (is_eq b 35 k) w.inside
        | inr k ↦ elim (cases_Bool ((b == 92) && (c == 10))) [
          | inl l ↦ let both = and_parts (b == 92) (c == 10) l in cleared_line b c u (is_eq b 92 both.0) (is_eq c 10 both.1) (more u c refl).outside
          | inr l ↦ cleared_stop b (c ∷ u) h k l
        ]
      ]
    ]

both_absurd : (u : List ℕ) (c : ℕ) → [] ≡ c ∷ u → Both u
both_absurd u c e = cc

both : (s : List ℕ) → Both s
both [] = record { outside = nothing_cleared; inside = nothing_commented }
both (b ∷ []) =
    let more = λ (u : List ℕ) (c : ℕ) (e : [] ≡ c ∷ u). both_absurd u c e in
    record { outside = gap_at b [] (both []) more; inside = comment_at b [] (both []) more }
both (b ∷ c ∷ u) =
    let more = λ (v : List ℕ) (d : ℕ) (e : c ∷ u ≡ d ∷ v). subst Both (tail_eq c d u v e) (both u) in
    record { outside = gap_at b (c ∷ u) (both (c ∷ u)) more; inside = comment_at b (c ∷ u) (both (c ∷ u)) more }

pub cleared : (s : List ℕ) → Cleared s (after_gap false s)
cleared s = (both s).outside

-- ## Command ends

pub CommandEnd-holds : {inside : Bool} {s rest : List ℕ} → CommandEnd inside s rest → (command_ends inside s ≡ true) × (after_command s ≡ rest)
CommandEnd-holds text_ends = (refl, refl)
CommandEnd-holds (separator h) = (or_left _ _ h, rw h refl)
CommandEnd-holds (bracket_comes h) = (and_from _ _ h refl, refl)

pub CommandEnd-made : (inside : Bool) (s : List ℕ) → command_ends inside s ≡ true → CommandEnd inside s (after_command s)
CommandEnd-made inside [] h = text_ends
CommandEnd-made inside (b ∷ s) h =
    elim (cases_Bool (is_separator b)) [
      | inl k ↦ rw k (separator k)
      | inr k ↦
          let bracket : (inside && (b == 93)) ≡ true = subst (λ x. (x || (inside && (b == 93))) ≡ true) k h in
          let parts = and_parts inside (b == 93) bracket in
          rw k (subst (λ x. CommandEnd inside (x ∷ s) (x ∷ s)) (sym (is_eq b 93 parts.1)) (bracket_comes parts.0))
    ]

-- ## Words in braces

pub in_braces-Braced : {depth : ℕ} {s x rest : List ℕ} → Braced depth s x rest → in_braces false depth s ≡ Ok (x, rest)
in_braces-Braced (brace_matches {s = s}) = braces.close_whole s
in_braces-Braced (brace_opens {depth = depth} {s = s} h) = braces.open_inner depth s ∙ ap (put (123 ∷ [])) (in_braces-Braced h)
in_braces-Braced (brace_closes {depth = depth} {s = s} h) =
    braces.close_inner depth s ∙ ap (λ n. put (125 ∷ []) (in_braces false n s)) (omega arith) ∙ ap (put (125 ∷ [])) (in_braces-Braced h)
in_braces-Braced (brace_line {depth = depth} {s = s} h) =
    braces.line_step depth s ∙ ap (put (32 ∷ [])) (braces.blanks_in_braces depth s ∙ in_braces-Braced h)
in_braces-Braced (brace_pair {depth = depth} {b = b} {s = s} n h) = braces.pair_step depth b s n ∙ ap (put (92 ∷ b ∷ [])) (in_braces-Braced h)
in_braces-Braced (brace_character {depth = depth} {b = b} {s = s} o c l h) = braces.plain_step depth b s o c l ∙ ap (put (b ∷ [])) (in_braces-Braced h)

-- what was read behind some characters
record Behind (r : Result (List ℕ × List ℕ) Fault) (front x rest : List ℕ) : Type 0 where
  tail : List ℕ
  is : r ≡ Ok (tail, rest)
  whole : front ++ tail ≡ x

pair_same : (p q : List ℕ × List ℕ) → ◌≡◌ {A = Result (List ℕ × List ℕ) Fault} (Ok p) (Ok q) → p ≡ q
pair_same p q e = cc

put_behind : (front x rest : List ℕ) (r : Result (List ℕ × List ℕ) Fault) → put front r ≡ Ok (x, rest) → Behind r front x rest
put_behind front x rest (Ok (y, u)) e =
    let same = pair_same (front ++ y, u) (x, rest) e in
    record { tail = y; is = ap (λ v. Ok (y, v)) (ap (λ (p : List ℕ × List ℕ). p.1) same); whole = ap (λ (p : List ℕ × List ℕ). p.0) same }
put_behind front x rest (Err f) e = cc

clash_braces : (x rest : List ℕ) → ◌≡◌ {A = Result (List ℕ × List ℕ) Fault} (Err CloseBrace) (Ok (x, rest)) → ⊥
clash_braces x rest e = cc

no_brace : (depth : ℕ) (x rest : List ℕ) → in_braces false depth [] ≡ Ok (x, rest) → ⊥
no_brace depth x rest e = let h = sym (braces.braces_end depth) ∙ e in clash_braces x rest h

closing_by : (n depth : ℕ) (t x rest : List ℕ) → ((d : ℕ) (y : List ℕ) → length t < n → in_braces false d t ≡ Ok (y, rest) → Braced d t y rest) → length t < n → in_braces false depth (125 ∷ t) ≡ Ok (x, rest) → Braced depth (125 ∷ t) x rest
closing_by n zero t x rest more l e =
    let same = pair_same ([], t) (x, rest) (sym (braces.close_whole t) ∙ e) in
    subst (λ (p : List ℕ × List ℕ). Braced zero (125 ∷ t) p.0 p.1) same brace_matches
closing_by n (suc depth) t x rest more l e =
    let down : suc depth - 1 ≡ depth = omega arith in
    let k = put_behind (125 ∷ []) x rest (in_braces false depth t) (sym (braces.close_inner depth t ∙ ap (λ d. put (125 ∷ []) (in_braces false d t)) down) ∙ e) in
    subst (λ y. Braced (suc depth) (125 ∷ t) y rest) k.whole (brace_closes (more depth k.tail l k.is))

backslash_by : (n depth : ℕ) (t x rest : List ℕ) → ((u y : List ℕ) → length u < n → in_braces false depth u ≡ Ok (y, rest) → Braced depth u y rest) → length t < n → in_braces false depth (92 ∷ t) ≡ Ok (x, rest) → Braced depth (92 ∷ t) x rest
backslash_by n depth [] x rest more l e =
    let k = put_behind (92 ∷ []) x rest (in_braces false depth []) (sym (braces.lone_step depth) ∙ e) in
    absurd (no_brace depth k.tail rest k.is)
backslash_by n depth (c ∷ u) x rest more l e =
    elim (cases_Bool (c == 10)) [
      | inl h ↦
          let is = is_eq c 10 h in
          let blanks = drop (prefix_len is_blank u) u in
          let k = put_behind (32 ∷ []) x rest (in_braces false depth blanks) (sym (ap (λ d. in_braces false depth (92 ∷ d ∷ u)) is ∙ braces.line_step depth u ∙ ap (put (32 ∷ [])) (braces.blanks_in_braces depth u)) ∙ e) in
          let shorter = length-drop (prefix_len is_blank u) u in
          subst (λ d. Braced depth (92 ∷ d ∷ u) x rest) (sym is) (subst (λ y. Braced depth (92 ∷ 10 ∷ u) y rest) k.whole (brace_line (more blanks k.tail (omega arith) k.is)))
      | inr h ↦
          let k = put_behind (92 ∷ c ∷ []) x rest (in_braces false depth u) (sym (braces.pair_step depth c u h) ∙ e) in
          subst (λ y. Braced depth (92 ∷ c ∷ u) y rest) k.whole (brace_pair h (more u k.tail (omega arith) k.is))
    ]

braced_by : (n depth : ℕ) (s x rest : List ℕ) → length s < n → in_braces false depth s ≡ Ok (x, rest) → Braced depth s x rest
braced_by zero depth s x rest l e = absurd (omega arith)
braced_by (suc n) depth [] x rest l e = absurd (no_brace depth x rest e)
braced_by (suc n) depth (b ∷ t) x rest l e =
    elim (cases_Bool (b == 123)) [
      | inl h ↦
          let is = is_eq b 123 h in
          let k = put_behind (123 ∷ []) x rest (in_braces false (suc depth) t) (sym (ap (λ c. in_braces false depth (c ∷ t)) is ∙ braces.open_inner depth t) ∙ e) in
          subst (λ c. Braced depth (c ∷ t) x rest) (sym is) (subst (λ y. Braced depth (123 ∷ t) y rest) k.whole (brace_opens (braced_by n (suc depth) t k.tail rest (omega arith) k.is)))
      | inr o ↦ elim (cases_Bool (b == 125)) [
        | inl h ↦ let is = is_eq b 125 h in subst (λ c. Braced depth (c ∷ t) x rest) (sym is) (closing_by n depth t x rest (λ d y l'. braced_by n d t y rest l') (omega arith) (ap (λ c. in_braces false depth (c ∷ t)) (sym is) ∙ e))
        | inr c ↦ elim (cases_Bool (b == 92)) [
          | inl h ↦ let is = is_eq b 92 h in subst (λ c. Braced depth (c ∷ t) x rest) (sym is) (backslash_by n depth t x rest (λ u y l'. braced_by n depth u y rest l') (omega arith) (ap (λ c. in_braces false depth (c ∷ t)) (sym is) ∙ e))
          | inr m ↦
              let k = put_behind (b ∷ []) x rest (in_braces false depth t) (sym (braces.plain_step depth b t o c m) ∙ e) in
              subst (λ y. Braced depth (b ∷ t) y rest) k.whole (brace_character o c m (braced_by n depth t k.tail rest (omega arith) k.is))
        ]
      ]
    ]

pub Braced-in_braces : (depth : ℕ) (s x rest : List ℕ) → in_braces false depth s ≡ Ok (x, rest) → Braced depth s x rest
Braced-in_braces depth s x rest e = braced_by (suc (length s)) depth s x rest (omega arith) e

-- the only fault is that the brace is missing
abbrev LacksBrace : Result (List ℕ × List ℕ) Fault → Type 0
LacksBrace (Ok read) = Unit {0}
LacksBrace (Err f) = f ≡ CloseBrace

LacksBrace-put : (bs : List ℕ) (r : Result (List ℕ × List ℕ) Fault) → LacksBrace r → LacksBrace (put bs r)
LacksBrace-put bs (Ok read) h = tt
LacksBrace-put bs (Err f) h = h

LacksBrace-cond : (b : Bool) (x y : Result (List ℕ × List ℕ) Fault) → LacksBrace x → LacksBrace y → LacksBrace (cond b x y)
LacksBrace-cond true x y h k = h
LacksBrace-cond false x y h k = k

lacks_brace : (joining : Bool) (depth : ℕ) (s : List ℕ) → LacksBrace (in_braces joining depth s)
unfolding in_braces
lacks_brace joining depth [] = refl
lacks_brace joining depth (b ∷ []) = LacksBrace-cond ((b == 125) && (depth == 0)) (Ok ([], [])) (Err CloseBrace) tt refl
lacks_brace joining depth (b ∷ c ∷ s) =
    LacksBrace-cond (joining && is_blank b) (in_braces true depth (c ∷ s)) _ (lacks_brace true depth (c ∷ s))
    (LacksBrace-cond (b == 123) _ _ (LacksBrace-put (b ∷ []) _ (lacks_brace false (suc depth) (c ∷ s)))
    (LacksBrace-cond (b == 125) _ _ (LacksBrace-cond (depth == 0) (Ok ([], c ∷ s)) _ tt (LacksBrace-put (b ∷ []) _ (lacks_brace false (depth - 1) (c ∷ s))))
    (LacksBrace-cond (b == 92) _ _ (LacksBrace-cond (c == 10) _ _ (LacksBrace-put (32 ∷ []) _ (lacks_brace true depth s)) (LacksBrace-put (b ∷ c ∷ []) _ (lacks_brace false depth s)))
    (LacksBrace-put (b ∷ []) _ (lacks_brace false depth (c ∷ s))))))

pub braces_fault : (depth : ℕ) (s : List ℕ) (f : Fault) → in_braces false depth s ≡ Err f → f ≡ CloseBrace
braces_fault depth s f e = subst LacksBrace e (lacks_brace false depth s)

-- ## Names

no_name : (colons : Bool) → after_name colons [] ≡ []
unfolding after_name
no_name colons = refl

and-true : (b : Bool) → (b && true) ≡ b
and-true true = refl
and-true false = refl

pub name_stops : (colons : Bool) (s : List ℕ) → name_goes_on colons s ≡ false → after_name colons s ≡ s
name_stops colons [] h = no_name colons
name_stops true (b ∷ t) h = let p = or_parts _ _ h in names.name_stops_at true b t p.0 (sym (and-true (b == 58)) ∙ p.1)
name_stops false (b ∷ t) h =
    let p = or_parts _ _ h in
    elim (cases_Bool (b == 58)) [
      | inl k ↦
          let one : begins_with 58 t ≡ false = subst (λ x. (x && begins_with 58 t) ≡ false) k p.1 in
          let is = is_eq b 58 k in
          ap (λ c. after_name false (c ∷ t)) is ∙ names.one_colon t one ∙ ap (λ c. c ∷ t) (sym is)
      | inr k ↦ names.name_stops_at false b t p.0 k
    ]

pub after_name-Name : {colons : Bool} {s x rest : List ℕ} → Name colons s x rest → after_name colons s ≡ rest
after_name-Name (name_ends {colons = colons} {s = s} h) = name_stops colons s h
after_name-Name (name_character {colons = colons} {b = b} {s = s} h n) = names.name_head colons b s h ∙ after_name-Name n
after_name-Name (name_colons {s = s} n) = names.two_colons s ∙ after_name-Name n
after_name-Name (name_colon {s = s} n) = names.colon_head s ∙ after_name-Name n

pub whole-Name : {colons : Bool} {s x rest : List ℕ} → Name colons s x rest → s ≡ x ++ rest
whole-Name (name_ends h) = refl
whole-Name (name_character {b = b} h n) = ap (λ t. b ∷ t) (whole-Name n)
whole-Name (name_colons n) = ap (λ t. 58 ∷ 58 ∷ t) (whole-Name n)
whole-Name (name_colon n) = ap (λ t. 58 ∷ t) (whole-Name n)

-- a name, and what is behind it
record Named (colons : Bool) (s rest : List ℕ) : Type 0 where
  front : List ℕ
  is : Name colons s front rest

named_stop : (colons : Bool) (s : List ℕ) → name_goes_on colons s ≡ false → Named colons s (after_name colons s)
named_stop colons s h = subst (Named colons s) (sym (name_stops colons s h)) (record { front = []; is = name_ends h })

named_character : (colons : Bool) (b : ℕ) (t : List ℕ) → is_name_character b ≡ true → Named false t (after_name false t) → Named colons (b ∷ t) (after_name colons (b ∷ t))
named_character colons b t h n = subst (Named colons (b ∷ t)) (sym (names.name_head colons b t h)) (record { front = b ∷ n.front; is = name_character h n.is })

named_colon : (b : ℕ) (t : List ℕ) → b ≡ 58 → Named true t (after_name true t) → Named true (b ∷ t) (after_name true (b ∷ t))
named_colon b t e n =
    subst (λ c. Named true (c ∷ t) (after_name true (c ∷ t))) (sym e) (subst (Named true (58 ∷ t)) (sym (names.colon_head t)) (record { front = 58 ∷ n.front; is = name_colon n.is }))

named_colons : (b c : ℕ) (u : List ℕ) → b ≡ 58 → c ≡ 58 → Named true u (after_name true u) → Named false (b ∷ c ∷ u) (after_name false (b ∷ c ∷ u))
named_colons b c u e f n =
    let same : b ∷ c ∷ u ≡ 58 ∷ 58 ∷ u = λ i. e i ∷ f i ∷ u in
    subst (λ x. Named false x (after_name false x)) (sym same) (subst (Named false (58 ∷ 58 ∷ u)) (sym (names.two_colons u)) (record { front = 58 ∷ 58 ∷ n.front; is = name_colons n.is }))

named : (colons : Bool) (s : List ℕ) → Named colons s (after_name colons s)
named colons [] = named_stop colons [] refl
named true (b ∷ []) =
    elim (cases_Bool (is_name_character b)) [
      | inl h ↦ named_character true b [] h (named false [])
      | inr h ↦ elim (cases_Bool (b == 58)) [
        | inl k ↦ named_colon b [] (is_eq b 58 k) (named true [])
        | inr k ↦ named_stop true (b ∷ []) (or_from _ _ h (and_left _ _ k))
      ]
    ]
named false (b ∷ []) =
    elim (cases_Bool (is_name_character b)) [
      | inl h ↦ named_character false b [] h (named false [])
      | inr h ↦ named_stop false (b ∷ []) (or_from _ _ h (and_right _ _ refl))
    ]
named true (b ∷ c ∷ u) =
    elim (cases_Bool (is_name_character b)) [
      | inl h ↦ named_character true b (c ∷ u) h (named false (c ∷ u))
      | inr h ↦ elim (cases_Bool (b == 58)) [
        | inl k ↦ named_colon b (c ∷ u) (is_eq b 58 k) (named true (c ∷ u))
        | inr k ↦ named_stop true (b ∷ c ∷ u) (or_from _ _ h (and_left _ _ k))
      ]
    ]
named false (b ∷ c ∷ u) =
    elim (cases_Bool (is_name_character b)) [
      | inl h ↦ named_character false b (c ∷ u) h (named false (c ∷ u))
      | inr h ↦ elim (cases_Bool ((b == 58) && (c == 58))) [
        | inl k ↦ let two = and_parts (b == 58) (c == 58) k in named_colons b c u (is_eq b 58 two.0) (is_eq c 58 two.1) (named true u)
        | inr k ↦ named_stop false (b ∷ c ∷ u) (or_from _ _ h k)
      ]
    ]

-- the name is what stands before the rest
pub Name-before : (s : List ℕ) → Name false s (before s (after_name false s)) (after_name false s)
Name-before s =
    let n = named false s in
    let whole = whole-Name n.is in
    let front : n.front ≡ before s (after_name false s) = sym (ap (λ x. before x (after_name false s)) whole ∙ before-front n.front (after_name false s)) in
    subst (λ x. Name false s x (after_name false s)) front n.is

-- ## Runs

run_parts : (run : Run) (x rest : List ℕ) → Lacks (ends_run run) x → Meets (ends_run run) rest → (run_of run (x ++ rest) ≡ x) × (after_run run (x ++ rest) ≡ rest)
run_parts run [] [] l m = (refl, refl)
run_parts run [] (b ∷ rest) l m = (run_of_stops run b rest m, after_run_stops run b rest m)
run_parts run (b ∷ x) rest l m =
    let h = run_parts run x rest l.1 m in
    (run_of_goes_on run b (x ++ rest) l.0 ∙ ap (λ t. b ∷ t) h.0, after_run_goes_on run b (x ++ rest) l.0 ∙ h.1)

pub run-Lacks : (run : Run) (x rest s : List ℕ) → s ≡ x ++ rest → Lacks (ends_run run) x → Meets (ends_run run) rest → (run_of run s ≡ x) × (after_run run s ≡ rest)
run-Lacks run x rest s e l m =
    let h = run_parts run x rest l m in
    (ap (run_of run) e ∙ h.0, ap (after_run run) e ∙ h.1)

pub Lacks-run_of : (run : Run) (s : List ℕ) → Lacks (ends_run run) (run_of run s)
Lacks-run_of run [] = tt
Lacks-run_of run (b ∷ s) =
    elim (cases_Bool (ends_run run b)) [
      | inl h ↦ subst (Lacks (ends_run run)) (sym (run_of_stops run b s h)) tt
      | inr h ↦ subst (Lacks (ends_run run)) (sym (run_of_goes_on run b s h)) (h, Lacks-run_of run s)
    ]

pub Meets-after_run : (run : Run) (s : List ℕ) → Meets (ends_run run) (after_run run s)
Meets-after_run run [] = tt
Meets-after_run run (b ∷ s) =
    elim (cases_Bool (ends_run run b)) [
      | inl h ↦ subst (Meets (ends_run run)) (sym (after_run_stops run b s h)) h
      | inr h ↦ subst (Meets (ends_run run)) (sym (after_run_goes_on run b s h)) (Meets-after_run run s)
    ]
