-- The next name has its row, if the section lists it.
use Rattle.cw_mini.proofs.Terms.{◌≡◌, ◌∙◌, ℕ, ◌+◌, List, Some, ap, drop, get_or, subst, sym, slice_get, Entry, NameId}
use Rattle.cw_mini.proofs.Terms.{Occurrence, SectionRef, IndexRow, index_rows, MiniRow, defining, numbers, positions}
use Rattle.cw_mini.proofs.Terms.{row_names}
use Rattle.cw_mini.proofs.NamedRows.{IsRowOf, index-named}
use Rattle.cw_mini.proofs.RowPlaces.{IsHere, listed_by, row-here, row-kept, row-left, rows_with}
use Rattle.cw_mini.proofs.rows.rows_of.Goals.{else-lists, then-lists+in_ok-sections+in_ok-push}
use Rattle.cw_mini.proofs.rows.rows_of.Goals as goal

pub loop-id-preserved : goal.loop-id-preserved
loop-id-preserved c =
    let names : List Entry = c.args.places.names.now in
    let occurrences : List Occurrence = c.args.places.occurrences.now in
    let all : List IndexRow = index_rows names occurrences in
    let ids : List NameId = c.as_slice-id-items.result.now in
    let none : NameId = record { index = 0 } in
    let i : ℕ = c.loop-id.id-index in
    let same : positions ids ≡ row_names all =
    ap positions c.as_slice-id-items.ensures.value ∙ c.in_ok-order.ensures.rows in
    let here : IsHere (IsRowOf names occurrences) ids all i none =
    row-here (IsRowOf names occurrences) ids all i none same (index-named names occurrences) c.loop-id-test.true in
    let known : c.lists.result ≡ listed_by occurrences c.args.section (get_or ids i none) here.row.entry =
    c.lists.ensures here.row.entry
    (subst (λ (n : ℕ). slice_get names n ≡ Some here.row.entry) here.name here.is.there) in
    let with : List MiniRow → List MiniRow = λ rows. rows_with c.args.section occurrences rows (drop (i + 1) all) in
    elim c.if-lists.branch [
      | then-lists+in_ok-sections+in_ok-push w ↦
          ap with w.rows-is ∙ row-kept occurrences c.args.section ids all i none names here c.loop-id.rows
          w.push.new.self w.in_ok-sections.sections.items (sym known ∙ w.if-lists.true) (w.in_ok-sections.ensures
          ∙ ap (λ (ms : List SectionRef). numbers (defining ms)) w.sections_of.ensures.value) w.in_ok-push.ensures
          ∙ c.loop-id.invariant
      | else-lists w ↦
          ap with w.rows-is ∙ row-left occurrences c.args.section ids all i none names here c.loop-id.rows (sym known
          ∙ w.if-lists.false) ∙ c.loop-id.invariant
    ]
