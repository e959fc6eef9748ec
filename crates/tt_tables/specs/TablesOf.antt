-- The tables that those of the code mean.
use Rattle.tt_tables.specs.Tables.{Tables, tables_from}
use Rattle.tt_tables.specs.declared.tables.Tables.{Tables as GivenTables}

-- the tables of these parts and symbols
abbrev pub tables_of : GivenTables → Tables
tables_of given = tables_from given.parts.now given.symbols.now
