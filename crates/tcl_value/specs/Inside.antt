-- Changes inside lists and dicts that stand in one another.
use Rattle.std.specs.Prelude.{◌≡◌, ℕ, zero, suc, ◌+◌, ◌≤◌, Bool, false, List, [], ◌∷◌, ◌++◌, length}
use Rattle.std.specs.Prelude.{Ok, Err, option_map}
use Rattle.std.specs.declared.result.Result.{Result}
use Rattle.std.specs.declared.option.Option.{Option}
use Rattle.std.specs.declared.option.Option.TheVariants.{None, Some}
use Rattle.tcl_text.specs.declared.list.ListFault.{ListFault}
use Rattle.tcl_text.specs.Lists.{list_of}
use Rattle.tcl_value.specs.Writing.{write_element, write}
use Rattle.tcl_value.specs.Texts.{element_text, texts, flat, ends_in_backslash, IsElement}
use Rattle.tcl_value.specs.Texts.{AreElements}
use Rattle.tcl_value.specs.Dicts.{Pairs, put, without, value_of, dict_of}
use Rattle.tcl_value.specs.declared.dict_fault.DictFault.{DictFault}
use Rattle.tcl_value.specs.declared.element.Change.{Change}
use Rattle.tcl_value.specs.declared.element.Change.TheVariants.{Value, Elements, Text, Without}

-- the element at a place, which is empty where there is none yet
abbrev pub element_at : ℕ → List (List ℕ) → List ℕ
element_at n [] = []
element_at zero (y ∷ l) = y
element_at (suc n) (y ∷ l) = element_at n l

-- the list with an element at a place, where it goes last if there is none yet
abbrev pub with_element : ℕ → List ℕ → List (List ℕ) → List (List ℕ)
with_element n x [] = x ∷ []
with_element zero x (y ∷ l) = x ∷ l
with_element (suc n) x (y ∷ l) = y ∷ with_element n x l

abbrev pub at_list : Result (List (List ℕ)) ListFault → (List (List ℕ) → Option (List ℕ)) →
    Option (List ℕ)
at_list (Ok l) go = go l
at_list (Err fault) go = None

-- The text with another element at a path of places, if there is such a path: the first place is
-- one in its list, and the rest lead on in the element there. A list that is changed is written
-- anew. Without a place it is the new text as it is.
abbrev pub element_put : List ℕ → List ℕ → List ℕ → Option (List ℕ)
element_put [] new text = Some new
element_put (n ∷ path) new text = at_list (list_of text)
    (λ l. option_map (λ x. write (with_element n x l)) (element_put path new (element_at n l)))

-- a list before and after an element was put at a path of places in it: its text is longer by no
-- more than there is room for, and ends in no backslash
pub record ListPut (path : List ℕ) (new : List ℕ) (room : ℕ) (old now : List (List ℕ)) : Type 0
  where
    pub changed : element_put path new (write old) ≡ Some (write now)
    pub ends : ends_in_backslash (write old) ≡ false → ends_in_backslash (write now) ≡ false
    pub several : length old ≤ length now
    pub light : length (write now) ≤ length (write old) + room

-- a text before and after: what is written of it is longer by no more than there is room for,
-- wherever it stands
pub record InnerChange (after : Option (List ℕ)) (room : ℕ) (old now : List ℕ) : Type 0 where
  pub changed : after ≡ Some now
  pub ends : ends_in_backslash now ≡ false
  pub light : (first : Bool) → length (write_element first now) ≤ length
      (write_element first old) + room

-- the value of a key, which is empty where there is none yet
abbrev pub value_or_empty : Option (List ℕ) → List ℕ
value_or_empty (Some v) = v
value_or_empty None = []

abbrev pub at_dict : Result Pairs DictFault → (Pairs → Option (List ℕ)) → Option (List ℕ)
at_dict (Ok es) go = go es
at_dict (Err fault) go = None

-- the list of a text with elements behind its own
abbrev pub elements_added : List (List ℕ) → List ℕ → Option (List ℕ)
elements_added more text = at_list (list_of text) (λ l. Some (write (l ++ more)))

-- the text of some entries without a key
abbrev pub text_without : Pairs → List ℕ → Option (List ℕ)
text_without [] key = None
text_without (e ∷ es) key = Some (write (flat (without (e ∷ es) key)))

-- The dict of a text without a key, which may be missing. An empty dict has nothing to lose, so
-- none is made where a key of the path is missing.
abbrev pub key_dropped : List ℕ → List ℕ → Option (List ℕ)
key_dropped key text = at_dict (dict_of text) (λ es. text_without es key)

-- the text after a change: another one in its place, others behind the elements of its list, one
-- behind it, or its dict without a key
abbrev pub changed_by : Change → List ℕ → Option (List ℕ)
changed_by (Value element) text = Some (element_text element)
changed_by (Elements elements) text = elements_added (texts elements.items) text
changed_by (Text more) text = Some (text ++ more)
changed_by (Without key) text = key_dropped key text

-- The text after what becomes of the one at the end of a path of keys: the first key is one of its
-- dict, and the rest lead on in its value. A key that is missing has an empty value. A dict that is
-- changed is written anew.
abbrev pub entry_made : List (List ℕ) → (List ℕ → Option (List ℕ)) → List ℕ → Option (List ℕ)
entry_made [] make text = make text
entry_made (k ∷ path) make text = at_dict (dict_of text)
    (λ es. option_map (λ x. write (flat (put es k x)))
    (entry_made path make (value_or_empty (value_of es k))))

abbrev pub entry_changed : List (List ℕ) → Change → List ℕ → Option (List ℕ)
entry_changed path change text = entry_made path (changed_by change) text

-- a change that puts nothing at the end that ends in a backslash
abbrev pub IsChange : Change → Type 0
IsChange (Value element) = IsElement element × (ends_in_backslash (element_text element) ≡ false)
IsChange (Elements elements) = AreElements elements.items × (1 ≤ length elements.items) ×
    (ends_in_backslash (write (texts elements.items)) ≡ false)
IsChange (Text more) = (1 ≤ length more) × (ends_in_backslash more ≡ false)
IsChange (Without key) = Unit {0}

-- a dict before and after a change at the end of a path of keys: its text is longer by no more than
-- there is room for, and ends in no backslash
pub record DictChange (path : List (List ℕ)) (change : Change) (room : ℕ) (old now : Pairs) : Type 0
  where
    pub changed : entry_changed path change (write (flat old)) ≡ Some (write (flat now))
    pub ends : ends_in_backslash (write (flat old)) ≡ false →
        ends_in_backslash (write (flat now)) ≡ false
    pub light : length (write (flat now)) ≤ length (write (flat old)) + room
