-- The line told of a scrap spells its leaf line.
use Rattle.cw_log.proofs.Terms.{◌≡◌, ℕ, List, [], ◌∷◌, map, refl, ap, Entry, kind_by, said, text_at, bare_name, id_of}
use Rattle.cw_log.proofs.Terms.{ItemsSayProductions, LinesSayScraps}

texts-of : (names : List Entry) (ns : List ℕ) → map (λ id. text_at names id.index) (map id_of ns)
    ≡ map (text_at names) ns
texts-of names [] = refl
texts-of names (n ∷ ns) = ap (λ ts. text_at names n ∷ ts) (texts-of names ns)

pub lines-say-scraps : LinesSayScraps
lines-say-scraps names scrap = ap (λ ts. record {
  kind = kind_by (bare_name scrap.tree) (said scrap.tree).stops (said scrap.tree).names;
  cat = scrap.cat;
  names = ts;
}) (texts-of names (said scrap.tree).names)

pub items-say-productions : ItemsSayProductions
items-say-productions p = refl
