-- The small lives in which an interpreter is dropped are lives.
use Rattle.std.proofs.Common.{ℕ, true, List, [], ◌∷◌, ◌++◌, Some, None, refl}
use Rattle.tcl_core.specs.Paths.{Place}
use Rattle.tcl_core.specs.Endings.{ok, refusal}
use Rattle.tcl_core.specs.Endings.Kind.{Gone}
use Rattle.tcl_core.specs.Endings.Reply.{Completed, Stop}
use Rattle.tcl_core.specs.Entries.Entry.{Eval}
use Rattle.tcl_core.specs.Entries.Answer.{Replied}
use Rattle.tcl_core.specs.Trees.{Event, What, at, effect}
use Rattle.tcl_core.specs.Trees.Grants.{Budget}
use Rattle.tcl_core.specs.Trees.What.{Seen, Changed, Charged, Nested, Unnested, Made, Dropped, Out, In, Done, Back}
use Rattle.tcl_core.specs.Programs.Next.{On}
use Rattle.tcl_core.specs.Programs.Prog.{wait}
use Rattle.tcl_core.specs.Runs.{World, Step}
use Rattle.tcl_core.specs.Rules.{Derives}
use Rattle.tcl_core.specs.Rules.Derives.{acted, called, called_out, called_passed, completed, entered, entered_halted, unanswered, wrapped, wrapped_halted, wrapped_passed}
use Rattle.tcl_core.specs.Lives.{alone, idle, never}
use Rattle.tcl_core.specs.Lives.Reacts.{waiting}
use Rattle.tcl_core.specs.Views.{moves_of, view}
use Rattle.tcl_core.specs.Deletion.{WorkedDeletion, Script, after_deletion, asks_above, asks_parent, c, commands, deletion, entry, first_tree, from_below, g, kills, program, start, tells_c, tells_g}
use Rattle.tcl_core.proofs.RuleLaws.{derived_runs}

abbrev tail : List (Event ℕ) → List (Event ℕ)
tail [] = []
tail (x ∷ xs) = xs

-- the world after the next happening
abbrev next : Place → What ℕ → ℕ → World ℕ → World ℕ
next p x b w = record { tree = effect p x w.tree; moves = []; grants = Budget b; tape = tail w.tape }

abbrev d0 : World ℕ
d0 = start (deletion ++ after_deletion)

abbrev d1 : World ℕ
d1 = next [] (In None (Eval tells_c)) 9 d0

d_s1 : Step d0 [] (In None (Eval tells_c)) d1
d_s1 = record { tape = refl; tree = refl; moves = refl; grants = refl }

abbrev d2 : World ℕ
d2 = next [] (Nested) 9 d1

d_s2 : Step d1 [] (Nested) d2
d_s2 = record { tape = refl; tree = refl; moves = refl; grants = refl }

abbrev d3 : World ℕ
d3 = next [] (Charged) 8 d2

d_s3 : Step d2 [] (Charged) d3
d_s3 = record { tape = refl; tree = refl; moves = refl; grants = refl }

abbrev d4 : World ℕ
d4 = next [] (Out (Some 0) (c ∷ []) (Eval asks_parent)) 8 d3

d_s4 : Step d3 [] (Out (Some 0) (c ∷ []) (Eval asks_parent)) d4
d_s4 = record { tape = refl; tree = refl; moves = refl; grants = refl }

abbrev d5 : World ℕ
d5 = next (c ∷ []) (In (Some 1) (Eval asks_parent)) 8 d4

d_s5 : Step d4 (c ∷ []) (In (Some 1) (Eval asks_parent)) d5
d_s5 = record { tape = refl; tree = refl; moves = refl; grants = refl }

abbrev d6 : World ℕ
d6 = next (c ∷ []) (Nested) 8 d5

d_s6 : Step d5 (c ∷ []) (Nested) d6
d_s6 = record { tape = refl; tree = refl; moves = refl; grants = refl }

abbrev d7 : World ℕ
d7 = next (c ∷ []) (Changed 3) 8 d6

d_s7 : Step d6 (c ∷ []) (Changed 3) d7
d_s7 = record { tape = refl; tree = refl; moves = refl; grants = refl }

abbrev d8 : World ℕ
d8 = next (c ∷ []) (Charged) 7 d7

d_s8 : Step d7 (c ∷ []) (Charged) d8
d_s8 = record { tape = refl; tree = refl; moves = refl; grants = refl }

abbrev d9 : World ℕ
d9 = next (c ∷ []) (Out (Some 1) [] (Eval kills)) 7 d8

d_s9 : Step d8 (c ∷ []) (Out (Some 1) [] (Eval kills)) d9
d_s9 = record { tape = refl; tree = refl; moves = refl; grants = refl }

abbrev d10 : World ℕ
d10 = next [] (In (Some 0) (Eval kills)) 7 d9

d_s10 : Step d9 [] (In (Some 0) (Eval kills)) d10
d_s10 = record { tape = refl; tree = refl; moves = refl; grants = refl }

abbrev d11 : World ℕ
d11 = next [] (Nested) 7 d10

d_s11 : Step d10 [] (Nested) d11
d_s11 = record { tape = refl; tree = refl; moves = refl; grants = refl }

abbrev d12 : World ℕ
d12 = next [] (Charged) 6 d11

d_s12 : Step d11 [] (Charged) d12
d_s12 = record { tape = refl; tree = refl; moves = refl; grants = refl }

abbrev d13 : World ℕ
d13 = next (c ∷ []) (Dropped) 6 d12

d_s13 : Step d12 (c ∷ []) (Dropped) d13
d_s13 = record { tape = refl; tree = refl; moves = refl; grants = refl }

abbrev d14 : World ℕ
d14 = next (c ∷ []) (Made 0 true) 6 d13

d_s14 : Step d13 (c ∷ []) (Made 0 true) d14
d_s14 = record { tape = refl; tree = refl; moves = refl; grants = refl }

abbrev d15 : World ℕ
d15 = next [] (Unnested) 6 d14

d_s15 : Step d14 [] (Unnested) d15
d_s15 = record { tape = refl; tree = refl; moves = refl; grants = refl }

abbrev d16 : World ℕ
d16 = next [] (Done (Some 0) (Completed (ok []))) 6 d15

d_s16 : Step d15 [] (Done (Some 0) (Completed (ok []))) d16
d_s16 = record { tape = refl; tree = refl; moves = refl; grants = refl }

abbrev d17 : World ℕ
d17 = next (c ∷ []) (Back (Some 1) (Replied (Stop 0 Gone))) 6 d16

d_s17 : Step d16 (c ∷ []) (Back (Some 1) (Replied (Stop 0 Gone))) d17
d_s17 = record { tape = refl; tree = refl; moves = refl; grants = refl }

abbrev d18 : World ℕ
d18 = next (c ∷ []) (Seen) 6 d17

d_s18 : Step d17 (c ∷ []) (Seen) d18
d_s18 = record { tape = refl; tree = refl; moves = refl; grants = refl }

abbrev d19 : World ℕ
d19 = next (c ∷ []) (Unnested) 6 d18

d_s19 : Step d18 (c ∷ []) (Unnested) d19
d_s19 = record { tape = refl; tree = refl; moves = refl; grants = refl }

abbrev d20 : World ℕ
d20 = next (c ∷ []) (Done (Some 1) (Stop 0 Gone)) 6 d19

d_s20 : Step d19 (c ∷ []) (Done (Some 1) (Stop 0 Gone)) d20
d_s20 = record { tape = refl; tree = refl; moves = refl; grants = refl }

abbrev d21 : World ℕ
d21 = next [] (Back (Some 0) (Replied (Completed (refusal Gone)))) 6 d20

d_s21 : Step d20 [] (Back (Some 0) (Replied (Completed (refusal Gone)))) d21
d_s21 = record { tape = refl; tree = refl; moves = refl; grants = refl }

abbrev d22 : World ℕ
d22 = next [] (Unnested) 6 d21

d_s22 : Step d21 [] (Unnested) d22
d_s22 = record { tape = refl; tree = refl; moves = refl; grants = refl }

abbrev d23 : World ℕ
d23 = next [] (Done None (Completed (refusal Gone))) 6 d22

d_s23 : Step d22 [] (Done None (Completed (refusal Gone))) d23
d_s23 = record { tape = refl; tree = refl; moves = refl; grants = refl }

d_kills : Derives (commands asks_parent) d10 [] (entry (Eval kills)) d15 (Some (Completed (ok [])))
d_kills = wrapped _ _ _ _ _ (None, Nested, On) d11 d14 d15 _ (ok []) _ refl refl d_s11 (acted _ _ _ _ (None, Charged, On) d12 _ _ refl tt d_s12
    (acted _ _ _ _ (Some c, Dropped, On) d13 _ _ refl tt d_s13 (acted _ _ _ _ (Some c, Made 0 true, On) d14 _ _ refl tt d_s14 (completed _ _ _)))) d_s15 (completed _ _ _)

d_asks : Derives (commands asks_parent) d7 (c ∷ []) (program asks_parent (Script.Asks 1)) d17 (Some (Stop 0 Gone))
d_asks = acted _ _ _ _ (None, Charged, On) d8 _ _ refl tt d_s8 (called_passed _ _ _ _ _ _ _ [] [] d9 d10 d15 d16 d17 (Completed (ok [])) refl d_s9 refl d_s10 d_kills d_s16 tt d_s17)

d_framed : Derives (commands asks_parent) d6 (c ∷ []) (program asks_parent Script.Framed_asks) d18 (Some (Stop 0 Gone))
d_framed = wrapped_passed _ _ _ _ _ (None, Changed 3, On) d7 d17 d18 (Stop 0 Gone) tt refl refl d_s7 d_asks d_s18

d_child : Derives (commands asks_parent) d5 (c ∷ []) (entry (Eval asks_parent)) d19 (Some (Stop 0 Gone))
d_child = wrapped_passed _ _ _ _ _ (None, Nested, On) d6 d18 d19 (Stop 0 Gone) tt refl refl d_s6 d_framed d_s19

d_tells : Derives (commands asks_parent) d2 [] (program asks_parent Script.TellsC) d21 (Some (Completed (refusal Gone)))
d_tells = acted _ _ _ _ (None, Charged, On) d3 _ _ refl tt d_s3 (called _ _ _ _ _ _ _ [] (c ∷ []) d4 d5 d19 d20 d21 _ (Stop 0 Gone) (refusal Gone) _ refl d_s4 refl d_s5 d_child d_s20 refl d_s21 (completed _ _ _))

d_root : Derives (commands asks_parent) d1 [] (entry (Eval tells_c)) d22 (Some (Completed (refusal Gone)))
d_root = wrapped _ _ _ _ _ (None, Nested, On) d2 d21 d22 _ (refusal Gone) _ refl refl d_s2 d_tells d_s22 (completed _ _ _)

d_life : Derives (commands asks_parent) d0 [] (wait idle never) d23 None
d_life = entered _ _ _ _ [] (Eval tells_c) d1 d22 d23 _ (Completed (refusal Gone)) _ refl refl d_s1 d_root d_s23 tt (unanswered _ _ _ _ refl refl refl)

abbrev f0 : World ℕ
f0 = start from_below

abbrev f1 : World ℕ
f1 = next [] (In None (Eval tells_c)) 9 f0

f_s1 : Step f0 [] (In None (Eval tells_c)) f1
f_s1 = record { tape = refl; tree = refl; moves = refl; grants = refl }

abbrev f2 : World ℕ
f2 = next [] (Nested) 9 f1

f_s2 : Step f1 [] (Nested) f2
f_s2 = record { tape = refl; tree = refl; moves = refl; grants = refl }

abbrev f3 : World ℕ
f3 = next [] (Charged) 8 f2

f_s3 : Step f2 [] (Charged) f3
f_s3 = record { tape = refl; tree = refl; moves = refl; grants = refl }

abbrev f4 : World ℕ
f4 = next [] (Out (Some 0) (c ∷ []) (Eval tells_g)) 8 f3

f_s4 : Step f3 [] (Out (Some 0) (c ∷ []) (Eval tells_g)) f4
f_s4 = record { tape = refl; tree = refl; moves = refl; grants = refl }

abbrev f5 : World ℕ
f5 = next (c ∷ []) (In (Some 1) (Eval tells_g)) 8 f4

f_s5 : Step f4 (c ∷ []) (In (Some 1) (Eval tells_g)) f5
f_s5 = record { tape = refl; tree = refl; moves = refl; grants = refl }

abbrev f6 : World ℕ
f6 = next (c ∷ []) (Nested) 8 f5

f_s6 : Step f5 (c ∷ []) (Nested) f6
f_s6 = record { tape = refl; tree = refl; moves = refl; grants = refl }

abbrev f7 : World ℕ
f7 = next (c ∷ []) (Charged) 7 f6

f_s7 : Step f6 (c ∷ []) (Charged) f7
f_s7 = record { tape = refl; tree = refl; moves = refl; grants = refl }

abbrev f8 : World ℕ
f8 = next (c ∷ []) (Out (Some 0) (g ∷ []) (Eval asks_above)) 7 f7

f_s8 : Step f7 (c ∷ []) (Out (Some 0) (g ∷ []) (Eval asks_above)) f8
f_s8 = record { tape = refl; tree = refl; moves = refl; grants = refl }

abbrev f9 : World ℕ
f9 = next (c ∷ g ∷ []) (In (Some 1) (Eval asks_above)) 7 f8

f_s9 : Step f8 (c ∷ g ∷ []) (In (Some 1) (Eval asks_above)) f9
f_s9 = record { tape = refl; tree = refl; moves = refl; grants = refl }

abbrev f10 : World ℕ
f10 = next (c ∷ g ∷ []) (Nested) 7 f9

f_s10 : Step f9 (c ∷ g ∷ []) (Nested) f10
f_s10 = record { tape = refl; tree = refl; moves = refl; grants = refl }

abbrev f11 : World ℕ
f11 = next (c ∷ g ∷ []) (Charged) 6 f10

f_s11 : Step f10 (c ∷ g ∷ []) (Charged) f11
f_s11 = record { tape = refl; tree = refl; moves = refl; grants = refl }

abbrev f12 : World ℕ
f12 = next (c ∷ g ∷ []) (Out (Some 2) [] (Eval kills)) 6 f11

f_s12 : Step f11 (c ∷ g ∷ []) (Out (Some 2) [] (Eval kills)) f12
f_s12 = record { tape = refl; tree = refl; moves = refl; grants = refl }

abbrev f13 : World ℕ
f13 = next [] (In (Some 0) (Eval kills)) 6 f12

f_s13 : Step f12 [] (In (Some 0) (Eval kills)) f13
f_s13 = record { tape = refl; tree = refl; moves = refl; grants = refl }

abbrev f14 : World ℕ
f14 = next [] (Nested) 6 f13

f_s14 : Step f13 [] (Nested) f14
f_s14 = record { tape = refl; tree = refl; moves = refl; grants = refl }

abbrev f15 : World ℕ
f15 = next [] (Charged) 5 f14

f_s15 : Step f14 [] (Charged) f15
f_s15 = record { tape = refl; tree = refl; moves = refl; grants = refl }

abbrev f16 : World ℕ
f16 = next (c ∷ []) (Dropped) 5 f15

f_s16 : Step f15 (c ∷ []) (Dropped) f16
f_s16 = record { tape = refl; tree = refl; moves = refl; grants = refl }

abbrev f17 : World ℕ
f17 = next (c ∷ []) (Made 0 true) 5 f16

f_s17 : Step f16 (c ∷ []) (Made 0 true) f17
f_s17 = record { tape = refl; tree = refl; moves = refl; grants = refl }

abbrev f18 : World ℕ
f18 = next [] (Unnested) 5 f17

f_s18 : Step f17 [] (Unnested) f18
f_s18 = record { tape = refl; tree = refl; moves = refl; grants = refl }

abbrev f19 : World ℕ
f19 = next [] (Done (Some 0) (Completed (ok []))) 5 f18

f_s19 : Step f18 [] (Done (Some 0) (Completed (ok []))) f19
f_s19 = record { tape = refl; tree = refl; moves = refl; grants = refl }

abbrev f20 : World ℕ
f20 = next (c ∷ g ∷ []) (Back (Some 2) (Replied (Stop 1 Gone))) 5 f19

f_s20 : Step f19 (c ∷ g ∷ []) (Back (Some 2) (Replied (Stop 1 Gone))) f20
f_s20 = record { tape = refl; tree = refl; moves = refl; grants = refl }

abbrev f21 : World ℕ
f21 = next (c ∷ g ∷ []) (Unnested) 5 f20

f_s21 : Step f20 (c ∷ g ∷ []) (Unnested) f21
f_s21 = record { tape = refl; tree = refl; moves = refl; grants = refl }

abbrev f22 : World ℕ
f22 = next (c ∷ g ∷ []) (Done (Some 1) (Stop 1 Gone)) 5 f21

f_s22 : Step f21 (c ∷ g ∷ []) (Done (Some 1) (Stop 1 Gone)) f22
f_s22 = record { tape = refl; tree = refl; moves = refl; grants = refl }

abbrev f23 : World ℕ
f23 = next (c ∷ []) (Back (Some 0) (Replied (Stop 0 Gone))) 5 f22

f_s23 : Step f22 (c ∷ []) (Back (Some 0) (Replied (Stop 0 Gone))) f23
f_s23 = record { tape = refl; tree = refl; moves = refl; grants = refl }

abbrev f24 : World ℕ
f24 = next (c ∷ []) (Unnested) 5 f23

f_s24 : Step f23 (c ∷ []) (Unnested) f24
f_s24 = record { tape = refl; tree = refl; moves = refl; grants = refl }

abbrev f25 : World ℕ
f25 = next (c ∷ []) (Done (Some 1) (Stop 0 Gone)) 5 f24

f_s25 : Step f24 (c ∷ []) (Done (Some 1) (Stop 0 Gone)) f25
f_s25 = record { tape = refl; tree = refl; moves = refl; grants = refl }

abbrev f26 : World ℕ
f26 = next [] (Back (Some 0) (Replied (Completed (refusal Gone)))) 5 f25

f_s26 : Step f25 [] (Back (Some 0) (Replied (Completed (refusal Gone)))) f26
f_s26 = record { tape = refl; tree = refl; moves = refl; grants = refl }

abbrev f27 : World ℕ
f27 = next [] (Unnested) 5 f26

f_s27 : Step f26 [] (Unnested) f27
f_s27 = record { tape = refl; tree = refl; moves = refl; grants = refl }

abbrev f28 : World ℕ
f28 = next [] (Done None (Completed (refusal Gone))) 5 f27

f_s28 : Step f27 [] (Done None (Completed (refusal Gone))) f28
f_s28 = record { tape = refl; tree = refl; moves = refl; grants = refl }

f_kills : Derives (commands tells_g) f13 [] (entry (Eval kills)) f18 (Some (Completed (ok [])))
f_kills = wrapped _ _ _ _ _ (None, Nested, On) f14 f17 f18 _ (ok []) _ refl refl f_s14 (acted _ _ _ _ (None, Charged, On) f15 _ _ refl tt f_s15
    (acted _ _ _ _ (Some c, Dropped, On) f16 _ _ refl tt f_s16 (acted _ _ _ _ (Some c, Made 0 true, On) f17 _ _ refl tt f_s17 (completed _ _ _)))) f_s18 (completed _ _ _)

f_asks : Derives (commands tells_g) f10 (c ∷ g ∷ []) (program tells_g (Script.Asks 2)) f20 (Some (Stop 1 Gone))
f_asks = acted _ _ _ _ (None, Charged, On) f11 _ _ refl tt f_s11 (called_passed _ _ _ _ _ _ _ [] [] f12 f13 f18 f19 f20 (Completed (ok [])) refl f_s12 refl f_s13 f_kills f_s19 tt f_s20)

f_below : Derives (commands tells_g) f9 (c ∷ g ∷ []) (entry (Eval asks_above)) f21 (Some (Stop 1 Gone))
f_below = wrapped_passed _ _ _ _ _ (None, Nested, On) f10 f20 f21 (Stop 1 Gone) tt refl refl f_s10 f_asks f_s21

f_passes : Derives (commands tells_g) f6 (c ∷ []) (program tells_g Script.TellsG) f23 (Some (Stop 0 Gone))
f_passes = acted _ _ _ _ (None, Charged, On) f7 _ _ refl tt f_s7 (called_passed _ _ _ _ _ _ _ (c ∷ []) (c ∷ g ∷ []) f8 f9 f21 f22 f23 (Stop 1 Gone) refl f_s8 refl f_s9 f_below f_s22 tt f_s23)

f_child : Derives (commands tells_g) f5 (c ∷ []) (entry (Eval tells_g)) f24 (Some (Stop 0 Gone))
f_child = wrapped_passed _ _ _ _ _ (None, Nested, On) f6 f23 f24 (Stop 0 Gone) tt refl refl f_s6 f_passes f_s24

f_tells : Derives (commands tells_g) f2 [] (program tells_g Script.TellsC) f26 (Some (Completed (refusal Gone)))
f_tells = acted _ _ _ _ (None, Charged, On) f3 _ _ refl tt f_s3 (called _ _ _ _ _ _ _ [] (c ∷ []) f4 f5 f24 f25 f26 _ (Stop 0 Gone) (refusal Gone) _ refl f_s4 refl f_s5 f_child f_s25 refl f_s26 (completed _ _ _))

f_root : Derives (commands tells_g) f1 [] (entry (Eval tells_c)) f27 (Some (Completed (refusal Gone)))
f_root = wrapped _ _ _ _ _ (None, Nested, On) f2 f26 f27 _ (refusal Gone) _ refl refl f_s2 f_tells f_s27 (completed _ _ _)

f_life : Derives (commands tells_g) f0 [] (wait idle never) f28 None
f_life = entered _ _ _ _ [] (Eval tells_c) f1 f27 f28 _ (Completed (refusal Gone)) _ refl refl f_s1 f_root f_s28 tt (unanswered _ _ _ _ refl refl refl)

-- THE CHILD ALONE, up to the deletion
abbrev alone_next : Place → What ℕ → ℕ → World ℕ → World ℕ
alone_next p x b w = record { tree = effect p x w.tree; moves = []; grants = Budget b; tape = tail w.tape }

abbrev a0 : World ℕ
a0 = alone (at first_tree (c ∷ [])) (moves_of (view (c ∷ []) deletion)) 1 (view (c ∷ []) deletion)

abbrev a1 : World ℕ
a1 = alone_next [] (In None (Eval asks_parent)) 1 a0

abbrev a2 : World ℕ
a2 = alone_next [] Nested 1 a1

abbrev a3 : World ℕ
a3 = alone_next [] (Changed 3) 1 a2

abbrev a4 : World ℕ
a4 = alone_next [] Charged 0 a3

abbrev a5 : World ℕ
a5 = alone_next [] (Out (Some 1) [] (Eval kills)) 0 a4

a_asks : Derives (commands asks_parent) a3 [] (program asks_parent (Script.Asks 1)) a5 None
a_asks = acted _ _ _ _ (None, Charged, On) a4 _ _ refl tt (record { tape = refl; tree = refl; moves = refl; grants = refl })
    (called_out _ _ _ _ _ _ _ a5 _ _ refl (record { tape = refl; tree = refl; moves = refl; grants = refl }) (unanswered _ _ _ _ refl refl refl))

a_framed : Derives (commands asks_parent) a2 [] (program asks_parent Script.Framed_asks) a5 None
a_framed = wrapped_halted _ _ _ _ _ (None, Changed 3, On) a3 a5 refl refl (record { tape = refl; tree = refl; moves = refl; grants = refl }) a_asks

a_child : Derives (commands asks_parent) a1 [] (entry (Eval asks_parent)) a5 None
a_child = wrapped_halted _ _ _ _ _ (None, Nested, On) a2 a5 refl refl (record { tape = refl; tree = refl; moves = refl; grants = refl }) a_framed

a_life : Derives (commands asks_parent) a0 [] (wait idle never) a5 None
a_life = entered_halted _ _ _ _ [] (Eval asks_parent) a1 a5 refl refl (record { tape = refl; tree = refl; moves = refl; grants = refl }) a_child

pub worked_deletion : WorkedDeletion
worked_deletion = record {
  life = derived_runs (commands asks_parent) d_life;
  anew = refl;
  ends = refl;
  handed = refl;
  told = refl;
  replayed = record { tape = view (c ∷ []) deletion; last = a5; run = waiting a0 a5 0 (derived_runs (commands asks_parent) a_life) (tt, (tt, (tt, (tt, (tt, tt))))) refl refl; told = refl; left = refl };
  life_below = derived_runs (commands tells_g) f_life;
  anew_below = refl;
  ends_below = refl;
}
