-- The printing of a list, item by item: what was printed, and what may still come.
use Rattle.cw_print.proofs.Terms.{◌≡◌, ℕ, suc, ◌+◌, ◌-◌, ◌<◌, ◌≤◌, Bool, Option, Some, Err, Ok, List, [], ◌∷◌, ◌++◌}
use Rattle.cw_print.proofs.Terms.{length, take, drop, get_or, slice_get, refl, ap, sym, ◌∙◌, subst, arith, append-nil}
use Rattle.cw_print.proofs.Terms.{append_assoc, drop_all, drop_more, get_or-drop, get_or-take, length-map}
use Rattle.cw_print.proofs.Terms.{take-append-drop, take_all, take_more, Item, Control, Printable, opened, printed}
use Rattle.cw_print.proofs.Terms.{run_sign, FlatItem, item_is, items_are, prints-bytes, prints-none, prints-nothing}
use Rattle.cw_print.proofs.Terms.{prints-stop, prints-then, added, depth_behind, early, late, Stands, CanCome, alone}
use Rattle.cw_print.proofs.Terms.{AllMay, MayCome, IsBehind, IsMidway, Midway, PrintsOn, shown, shown_next, titles}
use Rattle.cw_print.proofs.Terms.{PrintSource, Title, items_shown, outside, own_bytes, placed_shown, stand_after}
use Rattle.cw_print.proofs.Terms.{title_in, behind}
use Rattle.std.specs.Prelude.{Result, IsErrAnd, ⊤, option_map}
use Rattle.std.proofs.lemmas.List.Sums.{fold_push}
use Rattle.std.proofs.lemmas.Option.{get_or_from_slice_get, slice_get-get_or, slice_get-map, slice_get_within}
use Rattle.cw_desk.specs.State.{DeskState}
use Rattle.cw_lines.specs.{Sheets.Prints, declared.put_error.PutError.PutError}
use Rattle.cw_lines.specs.{declared.put_error.PutError.TheVariants.Memory, declared.sheet.Sheet.Sheet}
use Rattle.cw_join.proofs.EarlyLaws.{added-behind, early-added, printed-is}
use Rattle.cw_join.proofs.PrintedLaws.{printed-list}
use Rattle.cw_print.specs.declared.printing.Printer.{Printer}
use Rattle.cw_print.proofs.ComingLaws.{can-come, opened-most}
use Rattle.cw_print.proofs.ShownLaws.{own-alone, placed-run, shown-append, stand-more}

-- the bytes were printed, whatever the call answered
has-printed : {D T : Type 0} {told : D → DeskState} {bytes : List ℕ} {old new : Sheet D} {value : T}
    → Prints {T = T} told bytes old new (Ok value) → Prints {T = ⊤} told bytes old new (Ok (tt {0}))
has-printed {told = told} {new = new} prints = grind (arith, prints-bytes, append-nil, prints-then, prints-none)

-- Memory is refused, and nothing more is written.
prints-refused : {D : Type 0} {told : D → DeskState} (bytes : List ℕ) (sheet : Sheet D)
    → Prints {T = ⊤} told bytes sheet sheet (Err Memory)
prints-refused bytes sheet = prints-nothing bytes sheet refl

-- ## What is printed

-- one item more
pub shown-more : (s : PrintSource) (items : List Item) (item : Item) → shown s (items ++ item ∷ []) ≡ shown s items
    ++ shown_next s items item ∷ []
shown-more s items item = shown-append s items (item ∷ []) outside

early-more : (inner : Bool) (s : PrintSource) (items : List Item) (item : Item) → early inner (shown s items)
    ++ added inner (shown s items) (shown_next s items item) ≡ early inner (shown s (items ++ item ∷ []))
early-more inner s items item = grind (arith, early-added, shown-more)

-- ## One item

module _ (s : PrintSource) (inner : Bool) (items : List Item) (printer : Printer) (b : IsBehind s inner items printer)
    (item : FlatItem)
    (title : Option Title) (titled : title ≡ title_in (titles printer.book.now) (item_is item)) where
  same-title : title ≡ title_in s.titles (item_is item)
  same-title = titled ∙ ap (λ (t : ℕ → Option Title). title_in t (item_is item)) b.titles

  abbrev own : List ℕ
  own = own_bytes printer.book.now.names (item_is item)

  abbrev placed : List ℕ
  placed = (placed_shown printer.walk.fixed title (item_is item) printer.walk.stand).bytes

  abbrev added_with : List ℕ → List ℕ
  added_with bytes = added printer.joiner.inner (shown s items) (record { item = item_is item; bytes = bytes })

  -- what it prints by where it stands comes behind what the joiner prints of it
  placed-behind : (sign : Option Control) → run_sign (item_is item) ≡ sign → added_with own ++ placed
      ≡ added_with (own ++ placed)
  placed-behind sign is = grind (arith, added-behind, placed-run, append-nil)

  pub next-added : added printer.joiner.inner (shown s items) (alone printer.book.now.names item) ++ placed
      ≡ added inner (shown s items) (shown_next s items (item_is item))
  next-added = grind (arith, own-alone, placed-behind, same-title)

  pub next-appended : (before mid after : List ℕ) → mid ≡ before
      ++ added printer.joiner.inner (shown s items) (alone printer.book.now.names item)
      → after ≡ mid ++ placed → after ≡ before ++ added inner (shown s items) (shown_next s items (item_is item))
  next-appended before mid after by_joiner by_place = grind (arith, append_assoc, next-added)

  -- where the printing stands behind it
  pub next-stand : (placed_shown printer.walk.fixed title (item_is item) printer.walk.stand).stand
      ≡ stand_after s (items ++ item_is item ∷ []) outside
  next-stand = grind (arith, same-title, stand-more)

  -- the printer stands behind it where its walk and its joiner do
  pub next-behind : (next : Printer) → titles next.book.now ≡ s.titles → next.book.now.names ≡ s.names
      → next.walk ≡ behind printer.walk (placed_shown printer.walk.fixed title (item_is item) printer.walk.stand)
      → next.joiner.inner ≡ printer.joiner.inner → Stands next.joiner
      (shown s items ++ shown_next s items (item_is item) ∷ []) → IsBehind s inner (items ++ item_is item ∷ []) next
  next-behind next same_titles same_names walk same_inner stands = grind (arith, next-stand, shown-more)

-- ## First parts

-- What a first part of a list prints early comes first.
record BeginsEarly (inner : Bool) (ps all : List Printable) : Type 0 where
  pub rest : List ℕ
  pub is : early inner all ≡ early inner ps ++ rest

begins-early : (inner : Bool) (ps qs : List Printable) → BeginsEarly inner ps (ps ++ qs)
begins-early inner ps [] = grind (arith, append-nil)
begins-early inner ps (q ∷ qs) = grind (arith, begins-early inner (ps ++ q ∷ []) qs, append_assoc, early-added)

pub printed-by : (inner : Bool) (ps : List Printable) → early inner ps ++ late inner ps ≡ printed inner ps
printed-by inner ps = sym (printed-list inner ps ∙ printed-is inner ps)

-- a failure in the first n items is one in the list
prints-part : {D T U : Type 0} {told : D → DeskState} (inner : Bool) (s : PrintSource) (items : List Item) (n : ℕ)
    {old new : Sheet D} {error : PutError} {result : Result U PutError}
    → Prints {T = T} told (early inner (shown s (take n items))) old new (Err error)
    → IsErrAnd result (λ found. found ≡ error) → Prints told (printed inner (shown s items)) old new result
prints-part inner s items n begun is =
    let parts : shown s items ≡ shown s (take n items) ++ items_shown s (drop n items) (stand_after s (take n items)
    outside) = ap (shown s) (sym (take-append-drop n items)) ∙ shown-append s (take n items) (drop n items) outside in
    let first : BeginsEarly inner (shown s (take n items)) (shown s items) = subst
    (λ (all : List Printable). BeginsEarly inner (shown s (take n items)) all) (sym parts) (begins-early inner
    (shown s (take n items)) (items_shown s (drop n items) (stand_after s (take n items) outside))) in
    prints-bytes (sym (append_assoc (early inner (shown s (take n items))) first.rest (late inner (shown s items)))
    ∙ ap (λ (l : List ℕ). l ++ late inner (shown s items)) (sym first.is) ∙ printed-by inner (shown s items))
    (prints-stop (first.rest ++ late inner (shown s items)) begun is)

-- ## Midway

pub at-index : (items : List FlatItem) (i : ℕ) (other item : FlatItem) → get_or items i other ≡ item
    → i < length items → slice_get items i ≡ Some item
at-index items i other item is inside = slice_get-get_or items i other inside ∙ ap Some is

pub at-slice : (items : List FlatItem) (from to k : ℕ) (other item : FlatItem) → get_or (take (to - from)
    (drop from items)) k other ≡ item → k < to - from → to ≤ length items → slice_get items (from + k) ≡ Some item
at-slice items from to k other item is below within = at-index items (from + k) other item (sym (get_or-drop from items
    k other) ∙ sym (get_or-take (to - from) (drop from items) k other below) ∙ is) (omega (arith, below, within))

module _ (items : List FlatItem) (i : ℕ) (item : FlatItem) (is : slice_get items i ≡ Some item) where
  there : slice_get (items_are items) i ≡ Some (item_is item)
  there = slice_get-map item_is items i ∙ ap (λ (o : Option FlatItem). option_map item_is o) is

  inside : i < length (items_are items)
  inside = slice_get_within (items_are items) i (item_is item) there

  pub taken : take (i + 1) (items_are items) ≡ take i (items_are items) ++ item_is item ∷ []
  taken = take_more (items_are items) i (item_is item) inside ∙ ap (λ (x : Item). take i (items_are items) ++ x ∷ [])
      (get_or_from_slice_get (items_are items) i (item_is item) (item_is item) there)

  dropped : drop i (items_are items) ≡ item_is item ∷ drop (i + 1) (items_are items)
  dropped = drop_more (items_are items) i (item_is item) inside ∙ ap (λ (x : Item). x ∷ drop (i + 1) (items_are items))
      (get_or_from_slice_get (items_are items) i (item_is item) (item_is item) there)

  module _ (s : PrintSource) (inner : Bool) (printer : Printer) (midway : Midway s inner
      (items_are items) i printer) where
    abbrev depth : ℕ
    depth = depth_behind (shown s (take i (items_are items)))

    coming : AllMay (MayCome (length s.names)) depth (item_is item ∷ drop (i + 1) (items_are items))
    coming = subst (λ (rest : List Item). AllMay (MayCome (length s.names)) depth rest) dropped midway.come

    -- the next item may come
    pub next-comes : i < 18446744073709551615 → CanCome (length printer.book.now.names) printer.joiner.depth item
    next-comes small = grind (arith, can-come (length s.names) depth item coming.0 (omega arith))

    -- and the printer stands behind it then
    pub midway-next : (next : Printer) → IsBehind s inner (take i (items_are items) ++ item_is item ∷ []) next
        → Midway s inner (items_are items) (i + 1) next
    midway-next next behind =
        let deeper : depth_behind (shown s (take (i + 1) (items_are items))) ≡ opened depth (item_is item) = ap
        (λ (l : List Item). depth_behind (shown s l)) taken ∙ ap depth_behind (shown-more s (take i (items_are items))
        (item_is item)) ∙ fold_push (λ (d : ℕ) (p : Printable). opened d p.item) 0 (shown s (take i (items_are items)))
        (shown_next s (take i (items_are items)) (item_is item)) in
        let most : opened depth (item_is item) ≤ suc depth = opened-most depth (item_is item) in
        let shallow : depth ≤ i = midway.shallow in
        record {
          behind = subst (λ (l : List Item). IsBehind s inner l next) (sym taken) behind;
          come = subst (λ (d : ℕ). AllMay (MayCome (length s.names)) d (drop (i + 1) (items_are items))) (sym deeper)
              coming.1;
          shallow = subst (λ (d : ℕ). d ≤ i + 1) (sym deeper) (omega arith);
        }

-- What is put and what waits are what the first i items print early.
pub record Waiting {D : Type 0} (told : D → DeskState) (inner : Bool) (s : PrintSource) (items : List Item) (i : ℕ)
    (buffer : List ℕ) (old new : Sheet D) : Type 0 where
  pub done : List ℕ
  pub put : Prints {T = ⊤} told done old new (Ok (tt {0}))
  pub all : done ++ buffer ≡ early inner (shown s (take i items))

-- the items up to a place were printed, of those from another on
abbrev pub Printed : (items : List Item) (from i : ℕ) (first printer : Printer) (old new : List ℕ) → Type 0
Printed items from i first printer old new = (s : PrintSource) (inner : Bool) → Midway s inner items from first
    → Midway s inner items i printer × PrintsOn s inner items from i old new

module _ (items : List FlatItem) (i : ℕ) (item : FlatItem) (is : slice_get items i
    ≡ Some item) (from : ℕ) (first printer : Printer) (old buffer : List ℕ)
    (printed_so : Printed (items_are items) from i first printer old buffer) where
  -- the next item may come
  pub printed-comes : IsMidway (items_are items) from first → i < 18446744073709551615
      → CanCome (length printer.book.now.names) printer.joiner.depth item
  printed-comes some small = next-comes items i item is some.s some.inner printer
      (printed_so some.s some.inner some.midway).0 small

  -- one item more
  pub printed-more : (next : Printer) (new : List ℕ) → ((s : PrintSource) (inner : Bool) (before : List Item)
      → IsBehind s
      inner before printer → new ≡ buffer ++ added inner (shown s before) (shown_next s before (item_is item)))
      → ((s : PrintSource) (inner : Bool) (before : List Item) → IsBehind s inner before printer → IsBehind s inner
      (before ++ item_is item ∷ []) next) → Printed (items_are items) from (i + 1) first next old new
  printed-more next new bytes behind = λ s inner m.
      let k = printed_so s inner m in
      let before : List Item = take i (items_are items) in
      let one : List ℕ = added inner (shown s (take i (items_are items)))
      (shown_next s (take i (items_are items)) (item_is item)) in (
        midway-next items i item is s inner printer k.0 next (behind s inner before k.0.behind),
        λ done e. ap (λ (l : List ℕ). done ++ l) (bytes s inner before k.0.behind) ∙ sym (append_assoc done buffer one)
            ∙ ap (λ (l : List ℕ). l ++ one) (k.1 done e) ∙ early-more inner s (take i (items_are items)) (item_is item)
            ∙ ap (λ (l : List Item). early inner (shown s l)) (sym (taken items i item is)),
      )

pub printed-behind : (items : List Item) (from k : ℕ) (first printer : Printer) (old new : List ℕ) → Printed items from
    (from + k + 1) first printer old new → Printed items from (from + (k + 1)) first printer old new
printed-behind items from k first printer old new so = subst (λ (n : ℕ). Printed items from n first printer old new)
    (let e : from + k + 1 ≡ from + (k + 1) = omega arith in e) so

-- all items up to the last place are printed
module _ (items : List Item) (from i to : ℕ) (first printer : Printer) (old new : List ℕ)
    (printed_so : Printed items from i first printer old new) (is : i ≡ to) (s : PrintSource) (inner : Bool)
    (m : Midway s inner items from first) where
  pub printed-midway : Midway s inner items to printer
  printed-midway = subst (λ (n : ℕ). Midway s inner items n printer) is (printed_so s inner m).0

  pub printed-bytes : PrintsOn s inner items from to old new
  printed-bytes = subst (λ (n : ℕ). PrintsOn s inner items from n old new) is (printed_so s inner m).1

-- more waits
pub waits-on : {D : Type 0} {told : D → DeskState} (inner : Bool) (s : PrintSource) (items : List Item) (from to : ℕ)
    (buffer more : List ℕ) {old new : Sheet D} → Waiting told inner s items from buffer old new
    → PrintsOn s inner items from to buffer more → Waiting told inner s items to more old new
waits-on inner s items from to buffer more w prints = record { done = w.done; put = w.put; all = prints w.done w.all }

-- what waits is put
pub waits-none : {D : Type 0} {told : D → DeskState} (inner : Bool) (s : PrintSource) (items : List Item) (i : ℕ)
    (buffer left : List ℕ) {old mid new : Sheet D} → Waiting told inner s items i buffer old mid
    → Prints {T = ⊤} told buffer mid new (Ok (tt {0})) → left ≡ [] → Waiting told inner s items i left old new
waits-none inner s items i buffer left w put none =
    grind (arith, has-printed (prints-then w.put put), prints-then w.put put, append-nil (w.done ++ buffer))

-- memory is refused while bytes wait
pub stops-waiting : {D U : Type 0} {told : D → DeskState} (inner : Bool) (s : PrintSource) (items : List Item) (i : ℕ)
    (buffer : List ℕ) {old new : Sheet D} {result : Result U PutError} → Waiting told inner s items i buffer old new
    → IsErrAnd result (λ found. found ≡ Memory) → Prints told (printed inner (shown s items)) old new result
stops-waiting inner s items i buffer {new = new} w is =
    prints-part inner s items i (prints-bytes w.all (prints-then w.put (prints-refused buffer new))) is

-- what waits is put, and fails
pub fails-waiting : {D T U : Type 0} {told : D → DeskState} (inner : Bool) (s : PrintSource) (items : List Item) (i : ℕ)
    (buffer : List ℕ) {old mid new : Sheet D} {error : PutError} {result : Result U PutError}
    → Waiting told inner s items i buffer old mid → Prints {T = T} told buffer mid new (Err error)
    → IsErrAnd result (λ found. found ≡ error) → Prints told (printed inner (shown s items)) old new result
fails-waiting inner s items i buffer w failed is =
    prints-part inner s items i (prints-bytes w.all (prints-then w.put failed)) is

-- ## The beginning and the end

pub midway-begun : (s : PrintSource) (inner : Bool) (items : List Item) (printer : Printer)
    → IsBehind s inner [] printer
    → AllMay (MayCome (length s.names)) 0 items → Midway s inner items 0 printer
midway-begun s inner items printer behind come = record { behind = behind; come = come; shallow = omega arith }

module _ (items : List FlatItem) (n : ℕ) (all : length items ≤ n) where
  short : length (items_are items) ≤ n
  short = let same = length-map items item_is in omega arith

  -- no inner text is open at the end
  pub midway-ended : (s : PrintSource) (inner : Bool) (printer : Printer) → Midway s inner (items_are items) n printer
      → printer.joiner.depth ≡ 0
  midway-ended s inner printer midway = grind (arith, drop_all, short)

  -- what waits, and what is left
  pub prints-all : {D U : Type 0} {told : D → DeskState} (inner : Bool) (s : PrintSource) (buffer rest : List ℕ)
      {old mid new : Sheet D} {result : Result U PutError} → Waiting told inner s (items_are items) n buffer old mid
      → rest ≡ buffer ++ late inner (shown s (take n (items_are items))) → Prints told rest mid new result
      → Prints told (printed inner (shown s (items_are items))) old new result
  prints-all inner s buffer rest w left put = grind (
    arith,
    append_assoc w.done buffer (late inner (shown s (take n (items_are items)))),
    printed-by inner (shown s (take n (items_are items))),
    take_all n (items_are items) short,
    prints-then w.put put,
  )
