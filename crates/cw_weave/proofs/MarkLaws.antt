-- What the mark of change on the last section leaves: what holds of each section, whatever its mark is.
use Rattle.cw_weave.proofs.Terms.{ℕ, Bool, true, false, List, [], ◌∷◌, if◌then◌else◌, All, All-cons, All-head, All-tail}
use Rattle.cw_weave.proofs.Terms.{Section, IsWholeSection}
use Rattle.cw_phase1.specs.Changed.{has_changed, with_last_changed, with_last_marked}

all-last : (P : Section → Type 0) → ((s : Section) → P s → P (record s { changed = true })) → (sections : List Section)
    → All P sections → All P (with_last_changed sections)
all-last P keeps [] all = all
all-last P keeps (s ∷ []) all = All-cons P _ [] (keeps s (All-head P s [] all)) (All-tail P s [] all)
all-last P keeps (s ∷ next ∷ sections) all = All-cons P s (with_last_changed (next ∷ sections))
    (All-head P s (next ∷ sections) all) (all-last P keeps (next ∷ sections) (All-tail P s (next ∷ sections) all))

all-marked-by : (P : Section → Type 0) → ((s : Section) → P s → P (record s { changed = true })) → (any : Bool)
    → (sections : List Section) → All P sections → All P (if any then with_last_changed sections else sections)
all-marked-by P keeps true sections all = all-last P keeps sections all
all-marked-by P keeps false sections all = all

pub all-marked : (P : Section → Type 0) → ((s : Section) → P s → P (record s { changed = true }))
    → (sections : List Section) → All P sections → All P (with_last_marked sections)
all-marked P keeps sections all = all-marked-by P keeps (has_changed sections) sections all

-- The mark changes no span, so whole sections stay whole.
pub all_whole : (text : List ℕ) (sections : List Section) → All (IsWholeSection text) sections
    → All (IsWholeSection text) (with_last_marked sections)
all_whole text sections all = all-marked (IsWholeSection text) (λ s is. record {
  tex = is.tex;
  rest = record { definitions = is.rest.definitions; each = is.rest.each; c_part = is.rest.c_part };
}) sections all
