-- What the section list is printed from, as calls are given it.
use Rattle.cw_index.specs.declared.names.ListText.{ListText}
use Rattle.cw_press.specs.Texts.{Lasting, Setting}

abbrev pub list_setting : ListText → Lasting → Setting
list_setting t book = record { text = t.text.now; flags = t.flags.now; book = book; section = 0 }
