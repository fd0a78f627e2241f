-- The scrap has the form of its token, and a sound line stays sound with it behind the others.
use Rattle.cw_scraps.proofs.Terms.{◌≤◌, length, sym, subst, Ident, IsTied, word_form}
use Rattle.cw_scraps.proofs.Changings.{tied-idle}
use Rattle.cw_scraps.proofs.LeafForms.{word-has, word-good, token-sound, leaf-sound, length-entry}
use Rattle.cw_scraps.proofs.leaves.scrap_of.Goals as goal

pub returns-in_ok-name-in-Identifier-clause-form : goal.returns-in_ok-name-in-Identifier-clause-form
returns-in_ok-name-in-Identifier-clause-form c = word-has c.args.token.now.kind c.args.token.now.text.now
    c.args.token.now.hash_line c.args.token.now.directive c.args.token.now.span.start c.args.names.now
    c.find_or_add.new.self c.in_ok-name-in-Identifier.name c.category.result c.word_cat-cat.result
    c.word_leaf.result c.args.store.now.lists
    c.word_leaf.new.store.lists c.in-Identifier.is c.in_ok-name-in-Identifier.ensures.id
    c.in_ok-name-in-Identifier.ensures.ok c.category.ensures.value c.word_cat-cat.ensures.cat
    (rw c.in_ok-reserve-in-Identifier.ensures.lists at c.word_leaf.ensures.form)

pub returns-in_ok-name-in-Identifier-clause-sound : goal.returns-in_ok-name-in-Identifier-clause-sound
returns-in_ok-name-in-Identifier-clause-sound c = λ line sound.
    let tied : IsTied c.args.store.now.lists = tied-idle c.args.store.now c.requires.idle c.tied_law.ensures in
    let more : length c.args.names.now ≤ length c.find_or_add.new.self = subst (λ es. length c.args.names.now ≤ length
    es) (sym c.in_ok-name-in-Identifier.ensures.ok) (length-entry Ident c.args.token.now.text.now c.args.names.now) in
    leaf-sound (word_form c.word_cat-cat.result c.in_ok-name-in-Identifier.name c.args.token.now.span.start)
    c.word_leaf.result c.args.store.now c.word_leaf.new.store c.args.names.now c.find_or_add.new.self line
    (word-good (length c.find_or_add.new.self) c.word_cat-cat.result c.in_ok-name-in-Identifier.name
    c.args.token.now.span.start c.in_ok-name-in-Identifier.ensures.within) (rw
    c.in_ok-reserve-in-Identifier.ensures.lists at c.word_leaf.ensures.form) tied c.word_leaf.ensures.idle more sound

pub returns-in_ok-reserve-in_default-clause-sound : goal.returns-in_ok-reserve-in_default-clause-sound
returns-in_ok-reserve-in_default-clause-sound c = λ line sound.
    let tied : IsTied c.args.store.now.lists = tied-idle c.args.store.now c.requires.idle c.tied_law.ensures in
    token-sound c.args.token.now.kind c.args.token.now.span.start c.token_leaf.result c.args.store.now
    c.token_leaf.new.store c.args.names.now line c.in_default.not-Identifier c.requires.kind
    (rw c.in_ok-reserve-in_default.ensures.lists at c.token_leaf.ensures.form) tied c.token_leaf.ensures.idle sound
