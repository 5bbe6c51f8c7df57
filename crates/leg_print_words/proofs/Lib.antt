-- Which words are printable
pub mod Printable
-- Words behind one another in a text, whatever comes before: each piece of such a text begins with white space
pub mod LeadingBlanks
-- Whole lines, whatever comes after: their words, and the tokens of a text of lines
pub mod Lines
-- A number in decimals is a name among words, and is read back
pub mod Numbers
-- Texts that words were added to, run by run
pub mod WordRuns
