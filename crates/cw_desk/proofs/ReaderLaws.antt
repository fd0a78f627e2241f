-- Files agree with what is read off them, and have what was read of them to its end.
use Rattle.std.proofs.Common.{◌≡◌, ℕ, ◌==◌, List, [], ◌∷◌, ◌++◌, Some, None, Option, Bool, true, false, if◌then◌else◌}
use Rattle.std.proofs.Common.{drop, take}
use Rattle.std.proofs.Common.{refl, sym, ap, subst, ◌∙◌, arith, append_assoc, length}
use Rattle.std.proofs.lemmas.Bool.Decides.{nat_tests}
use Rattle.std.proofs.lemmas.List.{append-nil, drop_min, length-take, take-append-drop}
use Rattle.std.specs.FinMap.{get}
use Rattle.cw_desk.specs.Answer.{Agree, Answer, Opened, Missing, Read, End, rest_of, text_of}
use Rattle.cw_desk.specs.Meaning.{Files}
use Rattle.cw_desk.specs.Reader.{Request, OpenFile, ReadBytes, SoFar, WasRead, once_called, once_opened, once_read}
use Rattle.cw_desk.specs.Reader.{bytes_come, opened_name, read_of}

-- ## Files agree with what is read off them

-- What a reader knows is what its answers tell of these files.
pub record Reads (files : Files) (r : SoFar) : Type 0 where
  pub agree : Agree r.answers files
  pub unread : (i : ℕ) → rest_of r.answers files i ≡ r.unread i

opening-reads : (files : Files) (name : List ℕ) (found : Option (List ℕ)) (r : SoFar) → get files name ≡ found
    → Reads files r → Reads files (once_opened name found r)
opening-reads files name None r is reads = record { agree = (reads.agree, is); unread = reads.unread }
opening-reads files name (Some bytes) r is reads = record {
  agree = (reads.agree, is ∙ ap (λ (f : Option (List ℕ)). Some (text_of f)) (sym is));
  unread = λ i. ap (λ (f : Option (List ℕ)). if i == r.opened then text_of f else rest_of r.answers files i) is
      ∙ ap (λ (rest : List ℕ). if i == r.opened then bytes else rest) (reads.unread i);
}

-- The first bytes of a list, and behind them the rest of it, by the length of the first ones.
taken-rest : (size : ℕ) (bytes : List ℕ) → drop (length (take size bytes)) bytes ≡ drop size bytes
taken-rest size bytes = ap (λ (n : ℕ). drop n bytes) (length-take size bytes) ∙ drop_min size bytes

reading-reads : (files : Files) (number size : ℕ) (rest : List ℕ) (r : SoFar) → r.unread number ≡ rest
    → Reads files r → Reads files (once_read number size rest r)
reading-reads files number size [] r is reads = record {
  agree = (reads.agree, reads.unread number ∙ is);
  unread = reads.unread;
}
reading-reads files number size (byte ∷ bytes) r is reads =
    let all : rest_of r.answers files number ≡ byte ∷ bytes = reads.unread number ∙ is in
    let behind : drop (length (take size (byte ∷ bytes))) (rest_of r.answers files number) ≡ drop size (byte ∷ bytes) =
    ap (drop (length (take size (byte ∷ bytes)))) all ∙ taken-rest size (byte ∷ bytes) in
    record {
      agree = (
        reads.agree,
        all ∙ sym (take-append-drop size (byte ∷ bytes))
            ∙ ap (λ (rest : List ℕ). take size (byte ∷ bytes) ++ rest) (sym behind),
      );
      unread = λ i. grind (arith, nat_tests, behind, reads.unread i);
    }

call-reads : (files : Files) (call : Request) (r : SoFar) → Reads files r → Reads files (once_called files call r)
call-reads files (OpenFile name) r reads = opening-reads files name (get files name) r refl reads
call-reads files (ReadBytes number size) r reads = reading-reads files number size (r.unread number) r refl reads

all-read : (files : Files) (calls : List Request) → Reads files (read_of files calls)
all-read files [] = record { agree = tt; unread = λ i. refl }
all-read files (call ∷ older) = call-reads files call (read_of files older) (all-read files older)

pub agree-themselves : (files : Files) (calls : List Request) → Agree (read_of files calls).answers files
agree-themselves files calls = (all-read files calls).agree

-- ## What agreement says of files

-- Files that agree with some answers agree with the older ones of them.
pub agree-older : (later older : List Answer) (files : Files) → Agree (later ++ older) files → Agree older files
agree-older [] older files agree = agree
agree-older (Opened j name ∷ later) older files agree = agree-older later older files agree.0
agree-older (Missing name ∷ later) older files agree = agree-older later older files agree.0
agree-older (Read j bytes ∷ later) older files agree = agree-older later older files agree.0
agree-older (End j ∷ later) older files agree = agree-older later older files agree.0

-- What came of a file and what is unread of it are all its bytes.
pub has-all : (i : ℕ) (name : List ℕ) (answers : List Answer) (files : Files) → opened_name i answers ≡ Some name
    → Agree answers files → get files name ≡ Some (bytes_come i answers ++ rest_of answers files i)
has-all i name [] files named agree = absurd cc
has-all i name (Opened j other ∷ older) files named agree = opened-all (i == j) named agree.1
    (λ known. has-all i name older files known agree.0)
  where
    opened-all : (same : Bool) → (if same then Some other else opened_name i older) ≡ Some name
        → get files other ≡ Some (text_of (get files other))
        → (opened_name i older ≡ Some name → get files name ≡ Some (bytes_come i older ++ rest_of older files i))
        → get files name ≡ Some ((if same then [] else bytes_come i older)
        ++ (if same then text_of (get files other) else rest_of older files i))
    opened-all true is found known =
        let same : other ≡ name = cc in
        subst (λ (n : List ℕ). get files n ≡ Some (text_of (get files other))) same found
    opened-all false is found known = known is
has-all i name (Missing other ∷ older) files named agree = has-all i name older files named agree.0
has-all i name (Read j bytes ∷ older) files named agree =
    grind (arith, nat_tests, append_assoc, agree.1, has-all i name older files named agree.0)
has-all i name (End j ∷ older) files named agree = has-all i name older files named agree.0

pub read-there : (answers : List Answer) (name bytes : List ℕ) (files : Files) → WasRead name bytes answers
    → Agree answers files → get files name ≡ Some bytes
read-there answers name bytes files read agree =
    let at_end : Agree (End read.number ∷ read.older) files =
    agree-older read.later (End read.number ∷ read.older) files
    (subst (λ (all : List Answer). Agree all files) read.ended agree) in
    has-all read.number name read.older files read.named at_end.0
    ∙ ap (λ (rest : List ℕ). Some (bytes_come read.number read.older ++ rest)) at_end.1
    ∙ ap (λ (all : List ℕ). Some all) (append-nil (bytes_come read.number read.older) ∙ read.read)

pub missing-there : (later older : List Answer) (name : List ℕ) (files : Files)
    → Agree (later ++ Missing name ∷ older) files → get files name ≡ None
missing-there later older name files agree = (agree-older later (Missing name ∷ older) files agree).1
